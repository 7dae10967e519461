-- What both ends of a link say once they are brought together.
use Rattle.std.proofs.Common.{◌≡◌, List, [], ◌∷◌, ◌++◌, length, take, drop, sym, ap, ◌∙◌, arith, append_assoc, append-nil, length-append, take-append-drop}
use Rattle.std.proofs.Math.Seq.{take-append_seam}
use Rattle.node_seat.specs.Seats.{IsFirst}

module _ {A : Type 0} where
  -- a list and more behind it
  pub first_more : (front all more : List A) → all ≡ front ++ more → IsFirst front all
  first_more front all more is = ap (take (length front)) is ∙ take-append_seam front more

  pub first_after : (taken other rest all : List A) → other ≡ taken → all ≡ other ++ rest → IsFirst taken all
  first_after taken other rest all same is = first_more taken all rest (is ∙ ap (λ (l : List A). l ++ rest) same)

  -- a front, and the rest behind it
  parted : (front all : List A) → IsFirst front all → all ≡ front ++ drop (length front) all
  parted front all is = sym (take-append-drop (length front) all) ∙ ap (λ (l : List A). l ++ drop (length front) all) is

  -- a front of a front
  pub first_of_front : (front mid rest all : List A) → all ≡ mid ++ rest → IsFirst front mid → IsFirst front all
  first_of_front front mid rest all is first =
      first_more front all (drop (length front) mid ++ rest) (is ∙ ap (λ (l : List A). l ++ rest) (parted front mid first) ∙ append_assoc front (drop (length front) mid) rest)

  pub front_of_first : (taken rest put all : List A) → put ≡ taken ++ rest → IsFirst put all → IsFirst taken all
  front_of_first taken rest put all is first =
      first_more taken all (rest ++ drop (length put) all)
      (parted put all first ∙ ap (λ (l : List A). l ++ drop (length put) all) is ∙ append_assoc taken rest (drop (length put) all))

  -- as many were taken as were put
  pub all_taken : (taken rest put : List A) → put ≡ taken ++ rest → length taken ≡ length put → put ≡ taken
  all_taken taken [] put is same = is ∙ append-nil taken
  all_taken taken (x ∷ rest) put is same = absurd (omega (arith, same, ap length is, length-append taken (x ∷ rest)))
