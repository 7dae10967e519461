-- What an entry rests on, by the test and in the terms of certificates.
use Rattle.std.proofs.Common.{Bool, List, None, Option, Some, ap, refl, true, ℕ, ◌≡◌, ◌&&◌, ◌==◌, ◌∙◌}
use Rattle.std.proofs.lemmas.Bool.{and_from, eq-eqb, eqb-true}
use Rattle.std.specs.Prelude.{is_none, ◌↔◌}
use Rattle.certificates.proofs.Equal.{votes-exact, marks-exact}
use Rattle.certificates.specs.Certificates.{accept_of, marks_fault, votes_fault, write_of}
use Rattle.node_rules.specs.Arrivals.{is_batch_for}
use Rattle.node_rules.specs.Reopening.{judging, rests, rests_by, rests_in}
use Rattle.replica_rules.specs.Seals.{digest_of}
use Rattle.node_laws.specs.Restoring.{IsCertified, IsCertifiedIn}
use Rattle.smart_base.specs.Views.{View}
use Rattle.vote_book.specs.declared.entry.LogEntry.{LogEntry}
use Rattle.vote_book.specs.declared.entry.LogEntry.TheVariants.{Accepted, Decided, Installed, Marked, Opened, Promised, Synced, Wrote}
use Rattle.smart_base.proofs.SameLists.{and_true}
use Rattle.node_rules.proofs.Options.{none_is}

pub all_three : (a b c : Bool) → a ≡ true → b ≡ true → c ≡ true → (a && b && c) ≡ true
all_three a b c x y z = and_from (a && b) c (and_from a b x y) z

pub each_of_three : (a b c : Bool) → (a && b && c) ≡ true → (a ≡ true) × (b ≡ true) × (c ≡ true)
each_of_three a b c is =
    let last = and_true (a && b) c is in
    let front = and_true a b last.0 in
    (front.0, front.1, last.1)

certified_in : (secret : List ℕ) (view : View) (e : LogEntry) → rests_in secret view e ≡ true → IsCertified secret view e
certified_in secret view (Opened o) is = tt
certified_in secret view (Wrote w) is = tt
certified_in secret view (Accepted a) is =
    let parts = each_of_three (a.slot.view == view.number) (is_none (votes_fault secret view (write_of a.slot a.digest) a.writes)) (is_batch_for secret a.slot.place a.digest a.batch) is in
    record {
      of_view = eqb-true a.slot.view view.number parts.0;
      writes = (votes-exact secret view (write_of a.slot a.digest) a.writes).0 (none_is (votes_fault secret view (write_of a.slot a.digest) a.writes) parts.1);
      batch = parts.2;
    }
certified_in secret view (Promised p) is = tt
certified_in secret view (Synced s) is = tt
certified_in secret view (Decided d) is =
    let parts = each_of_three (d.slot.view == view.number) (is_none (votes_fault secret view (accept_of d.slot (digest_of d.batch)) d.accepts))
    (is_batch_for secret d.slot.place (digest_of d.batch) d.batch) is in
    record {
      of_view = eqb-true d.slot.view view.number parts.0;
      accepts = (votes-exact secret view (accept_of d.slot (digest_of d.batch)) d.accepts).0 (none_is (votes_fault secret view (accept_of d.slot (digest_of d.batch)) d.accepts) parts.1);
      batch = parts.2;
    }
certified_in secret view (Installed i) is =
    let parts = and_true (i.view == view.number) (is_none (marks_fault secret view i.place i.digest i.marks)) is in
    record {
      of_view = eqb-true i.view view.number parts.0;
      marks = (marks-exact secret view i.place i.digest i.marks).0 (none_is (marks_fault secret view i.place i.digest i.marks) parts.1);
    }
certified_in secret view (Marked m) is = tt

pub resting_in : (secret : List ℕ) (view : View) (e : LogEntry) → IsCertified secret view e → rests_in secret view e ≡ true
resting_in secret view (Opened o) has = refl
resting_in secret view (Wrote w) has = refl
resting_in secret view (Accepted a) has =
    all_three (a.slot.view == view.number) (is_none (votes_fault secret view (write_of a.slot a.digest) a.writes)) (is_batch_for secret a.slot.place a.digest a.batch)
    (eq-eqb a.slot.view view.number has.of_view) (ap is_none ((votes-exact secret view (write_of a.slot a.digest) a.writes).1 has.writes)) has.batch
resting_in secret view (Promised p) has = refl
resting_in secret view (Synced s) has = refl
resting_in secret view (Decided d) has =
    all_three (d.slot.view == view.number) (is_none (votes_fault secret view (accept_of d.slot (digest_of d.batch)) d.accepts))
    (is_batch_for secret d.slot.place (digest_of d.batch) d.batch)
    (eq-eqb d.slot.view view.number has.of_view) (ap is_none ((votes-exact secret view (accept_of d.slot (digest_of d.batch)) d.accepts).1 has.accepts)) has.batch
resting_in secret view (Installed i) has =
    and_from (i.view == view.number) (is_none (marks_fault secret view i.place i.digest i.marks)) (eq-eqb i.view view.number has.of_view)
    (ap is_none ((marks-exact secret view i.place i.digest i.marks).1 has.marks))
resting_in secret view (Marked m) has = refl

-- ---- in the view that judges it

pub certified : (secret : List ℕ) (views : List View) (e : LogEntry) → rests secret views e ≡ true → IsCertifiedIn secret views e
certified secret views e is = by (judging views e) refl is
  where
    by : (o : Option View) → judging views e ≡ o → rests_by secret o e ≡ true → IsCertifiedIn secret views e
    by None at said = absurd (cc)
    by (Some view) at said = record { view = view; judges = at; certified = certified_in secret view e said }

pub resting : (secret : List ℕ) (views : List View) (e : LogEntry) → IsCertifiedIn secret views e → rests secret views e ≡ true
resting secret views e has = ap (λ (o : Option View). rests_by secret o e) has.judges ∙ resting_in secret has.view e has.certified

pub certified_exact : (secret : List ℕ) (views : List View) (e : LogEntry) → (rests secret views e ≡ true) ↔ IsCertifiedIn secret views e
certified_exact secret views e = (λ is. certified secret views e is, λ has. resting secret views e has)
