-- What is counted of records is counted of what they are.
use Rattle.std.specs.Prelude.{◌≡◌, refl, List, map, ℤ}
use Rattle.std.proofs.lemmas.List.{length-map}
use Rattle.format.specs.Writing.{counted}
use Rattle.rewriting.specs.Held.{each_map}

pub counted_back : {A : Type 0} (f : A → List ℤ) (g : List ℤ → A) (l : List (List ℤ)) → counted (λ x. f (g x)) l ≡ counted f (map g l)
counted_back f g l = rw (length-map l g, each_map f g l) refl
