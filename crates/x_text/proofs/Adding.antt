-- Adding one thing behind another.
use Rattle.std.proofs.Common.{ℕ, List, ◌++◌}
use Rattle.x_streams.specs.Streams.{Stream}
use Rattle.x_streams.specs.Writing.{Inked, Adds}
use Rattle.x_streams.proofs.Pens.{adds_trans}

pub two : (p q r : Inked) (a b c : Stream) (ws xs : List ℕ) → Adds p a q b ws → Adds q b r c xs
    → Adds p a r c (ws ++ xs)
two p q r a b c ws xs one more = adds_trans p q r a b c ws xs one more

pub three : (p q r s : Inked) (a b c d : Stream) (ws xs ys : List ℕ)
    → Adds p a q b ws → Adds q b r c xs → Adds r c s d ys → Adds p a s d (ws ++ xs ++ ys)
three p q r s a b c d ws xs ys one more last =
    adds_trans p r s a c d (ws ++ xs) ys (adds_trans p q r a b c ws xs one more) last

pub four : (p q r s t : Inked) (a b c d e : Stream) (ws xs ys zs : List ℕ)
    → Adds p a q b ws → Adds q b r c xs → Adds r c s d ys → Adds s d t e zs
    → Adds p a t e (ws ++ xs ++ ys ++ zs)
four p q r s t a b c d e ws xs ys zs one more then last =
    adds_trans p s t a d e (ws ++ xs ++ ys) zs
    (adds_trans p r s a c d (ws ++ xs) ys (adds_trans p q r a b c ws xs one more) then) last

pub five : (p q r s t u : Inked) (a b c d e k : Stream) (ws xs ys zs us : List ℕ)
    → Adds p a q b ws → Adds q b r c xs → Adds r c s d ys → Adds s d t e zs → Adds t e u k us
    → Adds p a u k (ws ++ xs ++ ys ++ zs ++ us)
five p q r s t u a b c d e k ws xs ys zs us one more then next last =
    adds_trans p t u a e k (ws ++ xs ++ ys ++ zs) us
    (four p q r s t a b c d e ws xs ys zs one more then next) last

pub six : (p q r s t u v : Inked) (a b c d e k l : Stream) (ws xs ys zs us vs : List ℕ)
    → Adds p a q b ws → Adds q b r c xs → Adds r c s d ys → Adds s d t e zs → Adds t e u k us
    → Adds u k v l vs
    → Adds p a v l (ws ++ xs ++ ys ++ zs ++ us ++ vs)
six p q r s t u v a b c d e k l ws xs ys zs us vs one more then next after last =
    adds_trans p u v a k l (ws ++ xs ++ ys ++ zs ++ us) vs
    (adds_trans p t u a e k (ws ++ xs ++ ys ++ zs) us
    (four p q r s t a b c d e ws xs ys zs one more then next) after) last
