-- The names that types give, one after another.
use Rattle.std.proofs.Common.{◌≡◌, List, ◌∷◌, ◌++◌, sym, ap, ◌∙◌, append_assoc}
use Rattle.x_trees.specs.Names.{Declared}
use Rattle.x_trees.specs.Tree.{Definition}
use Rattle.x_outline.specs.Bodies.{BodyAt}
use Rattle.x_pieces.proofs.PartLemmas.{then_two}
use Rattle.x_clash.specs.Given.{Given, bodies_after, body_names, declared_names, type_names, typedef_names}

-- one name more that is declared
pub types_more : (d : Definition) (n : Declared) (ns rest : List Declared) (bodies left : List BodyAt)
    (before one two three all : List Given) → ns ≡ n ∷ rest → one ≡ before ++ declared_names n
    → two ≡ one ++ typedef_names d n → three ≡ two ++ body_names n bodies → left ≡ bodies_after n bodies
    → before ++ type_names d ns bodies ≡ all → three ++ type_names d rest left ≡ all
types_more d n ns rest bodies left before one two three all is first second third after so =
    let here = declared_names n ++ typedef_names d n ++ body_names n bodies in
    let behind = type_names d rest (bodies_after n bodies) in
    ap (λ bs. three ++ type_names d rest bs) after
    ∙ ap (λ l. l ++ behind) (then_two before one two three (declared_names n) (typedef_names d n)
    (body_names n bodies)
    first second third)
    ∙ append_assoc before here behind ∙ sym (ap (λ l. before ++ type_names d l bodies) is) ∙ so
