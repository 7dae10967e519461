-- The marks that count show what all marks show of offered places.
use Rattle.std.proofs.Common.{◌≡◌, ℕ, ◌==◌, nat_lt, true, ◌&&◌, List, length, ap, sym, ◌∙◌}
use Rattle.std.specs.Prelude.{filter}
use Rattle.std.proofs.lemmas.Bool.{eqb-true}
use Rattle.smart_base.specs.Lists.{same_bytes}
use Rattle.smart_base.specs.Views.{View, is_view}
use Rattle.smart_base.proofs.SameLists.{and_true}
use Rattle.smart_statements.specs.Forms.{SignedBy}
use Rattle.smart_statements.specs.declared.report.Mark.{Mark}
use Rattle.state_marks.specs.Tables.{is_mark_of, has_marked, is_marked, AreEnough}
use Rattle.state_marks.proofs.Certified.{enough_from, enough_to}
use Rattle.transfer_form.specs.declared.transfer.StateOffer.{StateOffer}
use Rattle.state_transfer.specs.Plans.{is_offered, counts, usable, all_marks}
use Rattle.state_transfer.proofs.Lists.{filter_all, any_filter, filter_alike}

-- the marks that count are those of all marks
pub usable_is : (offers : List StateOffer) (kept : List (SignedBy Mark)) (place : ℕ) → usable offers kept place ≡ filter (counts offers place) (all_marks offers kept)
unfolding usable
usable_is offers kept place = filter_all (counts offers place) (λ (o : StateOffer). o.marks) kept offers

-- a mark of a place is of that place
placed : (wanted : Mark) (member : ℕ) (x : SignedBy Mark) → is_mark_of wanted member x ≡ true → x.statement.place ≡ wanted.place
placed wanted member x is =
    let first = and_true ((x.signer == member) && (x.statement.place == wanted.place)) (same_bytes x.statement.digest wanted.digest) is in
    let both = and_true (x.signer == member) (x.statement.place == wanted.place) first.0 in
    eqb-true x.statement.place wanted.place both.1

-- who marked at an offered place is told by the marks that count
pub same_markers : (offers : List StateOffer) (place : ℕ) (table : List (SignedBy Mark)) (wanted : Mark) → is_offered offers place wanted.place ≡ true → (member : ℕ)
    → has_marked (filter (counts offers place) table) wanted member ≡ has_marked table wanted member
same_markers offers place table wanted offered member =
    any_filter (is_mark_of wanted member) (counts offers place)
    (λ x is. ap (is_offered offers place) (placed wanted member x is) ∙ offered) table

pub same_marked : (offers : List StateOffer) (place : ℕ) (table : List (SignedBy Mark)) (v : View) (wanted : Mark) → is_offered offers place wanted.place ≡ true
    → is_marked v (filter (counts offers place) table) wanted ≡ is_marked v table wanted
same_marked offers place table v wanted offered =
    ap (λ (ms : List ℕ). nat_lt v.f (length ms))
    (filter_alike (has_marked (filter (counts offers place) table) wanted) (has_marked table wanted) (same_markers offers place table wanted offered) v.members)

abbrev pub marking : ℕ → List ℕ → Mark
marking k digest = record { place = k; digest = digest }

-- enough of all marks are enough of those that count, at an offered place
pub enough_usable : (offers : List StateOffer) (kept : List (SignedBy Mark)) (place : ℕ) (v : View) (k : ℕ) (digest : List ℕ) → is_view v ≡ true
    → is_offered offers place k ≡ true → AreEnough v (all_marks offers kept) k digest → AreEnough v (usable offers kept place) k digest
enough_usable offers kept place v k digest view offered are =
    enough_from v (usable offers kept place) k digest view
    (ap (λ (table : List (SignedBy Mark)). is_marked v table (marking k digest)) (usable_is offers kept place)
    ∙ (same_marked offers place (all_marks offers kept) v (marking k digest) offered ∙ enough_to v (all_marks offers kept) k digest are))

-- and the other way round
pub enough_all : (offers : List StateOffer) (kept : List (SignedBy Mark)) (place : ℕ) (v : View) (k : ℕ) (digest : List ℕ) → is_view v ≡ true
    → is_offered offers place k ≡ true → AreEnough v (usable offers kept place) k digest → AreEnough v (all_marks offers kept) k digest
enough_all offers kept place v k digest view offered are =
    enough_from v (all_marks offers kept) k digest view
    (sym (same_marked offers place (all_marks offers kept) v (marking k digest) offered)
    ∙ (sym (ap (λ (table : List (SignedBy Mark)). is_marked v table (marking k digest)) (usable_is offers kept place)) ∙ enough_to v (usable offers kept place) k digest are))
