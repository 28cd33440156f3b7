use Rattle.std.proofs.Common.{◌≡◌, List, map, sym, length, refl, ap, ◌∙◌, take}
use Rattle.std.proofs.lemmas.List.{take-map, length-map}
use Rattle.x_outline.specs.BodyWalks.{view_walk, view_body_at}
use Rattle.x_trees.proofs.CollectLemmas.{finds_less}
use Rattle.x_outline.proofs.bodies.BodyWalk.pass.Goals as goal

pub returns : goal.returns
returns c =
    finds_less (view_walk c.args.self.now) (view_walk c.inside.new.self)
    (view_walk record { list = c.truncate.new.self; word = c.inside.new.self.word }) _ _
    ((c.in_ok-inside.ensures.goes 0).bodies) refl
    (ap (map view_body_at) (c.truncate.ensures.items
    ∙ ap (λ n. take n c.inside.new.self.list.items) (c.len-bodies.ensures ∙ c.args.self.now.list.ok.0))
    ∙ taken view_body_at c.args.self.now.list.items c.inside.new.self.list.items)
  where
    taken : {A B : Type 0} (f : A → B) (a b : List A)
        → map f (take (length a) b) ≡ take (length (map f a)) (map f b)
    taken f a b = sym (take-map f (length a) b) ∙ ap (λ n. take n (map f b)) (sym (length-map a f))
