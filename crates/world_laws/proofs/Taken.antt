-- What more than f members certify by their marks is the snapshot of a state of the list.
use Rattle.std.proofs.Common.{◌≡◌, inl, inr, ℕ, ◌<◌, ◌≤◌, ◌∙◌, Bool, true, false, cond, List, [], ◌∷◌, length, take, Option, Some, refl, ap, sym, subst, arith}
use Rattle.std.specs.Prelude.{filter}
use Rattle.smart_base.specs.Lists.{Each}
use Rattle.smart_base.specs.Views.{View}
use Rattle.smart_base.specs.declared.party.Party.TheVariants.{Member}
use Rattle.smart_keys.specs.Keys.{digest}
use Rattle.smart_statements.specs.Batches.{Batch}
use Rattle.smart_statements.specs.Forms.{SignedBy}
use Rattle.smart_statements.specs.Reports.{marks}
use Rattle.smart_statements.specs.declared.report.Mark.{Mark}
use Rattle.smart_service.specs.Services.{Meaning}
use Rattle.smart_service.specs.declared.replica.Replica.{Replica}
use Rattle.certificates.specs.Certificates.{IsMarkCertificate, mark_of, signers}
use Rattle.vote_book.specs.Books.{Among}
use Rattle.vote_book.specs.declared.entry.LogEntry.{LogEntry}
use Rattle.vote_book.specs.declared.entry.LogEntry.TheVariants as entries
use Rattle.replica_rules.specs.Replicas.{state}
use Rattle.replica_rules.specs.Seals.{digest_of}
use Rattle.snapshot_form.specs.Snapshots as snapshots
use Rattle.agreement_laws.specs.Law.{IsCorrect, Witnessed}
use Rattle.agreement_laws.specs.Statements.{Statement}
use Rattle.agreement_laws.specs.Statements as says
use Rattle.agreement_laws.proofs.Groups.{is_one, signed_listed, signers_length, own}
use Rattle.agreement_laws.proofs.Lists.{among_number, each_among}
use Rattle.world_rules.specs.declared.message.Sent.{Sent}
use Rattle.world_laws.proofs.NoClash.{IsTextMet, TextsExact}
use Rattle.world_laws.proofs.Snapshots.{IsSnapshotAt, AreRestorable, snapshot_replica}

-- A right mark: its digest is that of a snapshot of the state at its place, and this snapshot was met.
pub record IsRightMark {S : Type 0} (m : Meaning S) (view : View) (chosen : List Batch) (sent : List Sent) (marked : List (List ℕ)) (k : Mark) : Type 0 where
  pub snapshot : List ℕ
  pub at : IsSnapshotAt m view chosen snapshot
  pub place_is : at.place ≡ k.place
  pub digest_is : digest snapshot ≡ k.digest
  pub was_met : IsTextMet sent marked snapshot

-- diaries in which each mark of a correct member is right
abbrev pub AreMarksRight : {S : Type 0} → Meaning S → View → List Batch → List Sent → List (List ℕ) → (ℕ → Bool) → (ℕ → List LogEntry) → Type 0
AreMarksRight m view chosen sent marked faulty diary =
    (member : ℕ) → faulty member ≡ false → (k : Mark) → Among (entries.Marked k) (diary member) → IsRightMark m view chosen sent marked k

-- ---- one of them is correct

pub record MarkedBy (view : View) (faulty : ℕ → Bool) (items : List (SignedBy Mark)) : Type 0 where
  pub member : ℕ
  pub is : IsCorrect view faulty member
  pub item : SignedBy Mark
  pub there : Among item items
  pub signed : member ≡ item.signer

-- a member that passes a test, and is not faulty
pub record Passes (p faulty : ℕ → Bool) (xs : List ℕ) : Type 0 where
  pub member : ℕ
  pub there : Among member xs
  pub passes : p member ≡ true
  pub correct : faulty member ≡ false

-- one of more than are faulty is correct
pub some_correct : (p faulty : ℕ → Bool) (xs : List ℕ) → length (filter faulty xs) < length (filter p xs) → Passes p faulty xs
some_correct p faulty [] more = absurd (omega (arith, more))
some_correct p faulty (x ∷ xs) more = by (p x) (faulty x) refl refl (λ less. some_correct p faulty xs less) more
  where
    later : Passes p faulty xs → Passes p faulty (x ∷ xs)
    later found = record { member = found.member; there = inr found.there; passes = found.passes; correct = found.correct }

    by : (t u : Bool) → p x ≡ t → faulty x ≡ u → (length (filter faulty xs) < length (filter p xs) → Passes p faulty xs)
        → length (cond u (x ∷ filter faulty xs) (filter faulty xs)) < length (cond t (x ∷ filter p xs) (filter p xs)) → Passes p faulty (x ∷ xs)
    by true true is bad next less = later (next (omega (arith, less)))
    by true false is good next less = record { member = x; there = inl refl; passes = is; correct = good }
    by false true isnt bad next less = later (next (omega (arith, less)))
    by false false isnt good next less = later (next less)

pub correct_marker : (secret : List ℕ) (view : View) (faulty : ℕ → Bool) (place : ℕ) (found : List ℕ) (items : List (SignedBy Mark)) → length (filter faulty view.members) ≤ view.f
    → IsMarkCertificate secret view place found items → MarkedBy view faulty items
correct_marker secret view faulty place found items few cert =
    let listed = signed_listed Mark secret marks view (λ k. k ≡ mark_of place found) items cert.0 in
    let many = signers_length items in
    let enough = cert.1 in
    let met = some_correct (is_one (signers items)) faulty view.members (omega (arith, listed, many, enough, few)) in
    let one = own items met.member met.passes in
    record { member = met.member; is = record { within = among_number view.members met.member met.there; correct = met.correct }; item = one.item; there = one.there; signed = one.signed }

-- ---- so the text that they certify is the snapshot of a state

pub certified_text : {S : Type 0} (m : Meaning S) (secret : List ℕ) (u view : View) (chosen : List Batch) (sent : List Sent) (marked : List (List ℕ)) (faulty : ℕ → Bool)
    (diary : ℕ → List LogEntry) (stated : List Statement) (place : ℕ) (found : List ℕ) (items : List (SignedBy Mark)) (text : List ℕ)
    → Witnessed secret digest_of u faulty diary stated → AreMarksRight m view chosen sent marked faulty diary → TextsExact sent marked
    → IsMarkCertificate secret u place found items → Each (λ (k : SignedBy Mark). Among (says.Marked k) stated) items → IsTextMet sent marked text → digest text ≡ found
    → IsRightMark m view chosen sent marked (mark_of place found) × IsSnapshotAt m view chosen text
certified_text m secret u view chosen sent marked faulty diary stated place found items text witnessed right exact cert drawn was_met is =
    let by = correct_marker secret u faulty place found items witnessed.few.few cert in
    let said : by.item.statement ≡ mark_of place found = each_among (λ (k : SignedBy Mark). k.statement ≡ mark_of place found) items by.item cert.0.stated by.there in
    let there : Among (says.Marked by.item) stated = each_among (λ (k : SignedBy Mark). Among (says.Marked k) stated) items by.item drawn by.there in
    let shown : Among (entries.Marked by.item.statement) (diary by.member) = witnessed.shown by.member by.is (says.Marked by.item) there (ap (λ (n : ℕ). Member n) (sym by.signed)) in
    let mark : IsRightMark m view chosen sent marked (mark_of place found) =
    subst (λ (k : Mark). IsRightMark m view chosen sent marked k) said (right by.member by.is.correct by.item.statement shown) in
    let same : text ≡ mark.snapshot = exact.same text mark.snapshot was_met mark.was_met (is ∙ sym mark.digest_is) in
    (mark, subst (λ (bytes : List ℕ). IsSnapshotAt m view chosen bytes) (sym same) mark.at)

-- ---- and the replica that it is read as is that state

some_is : {S : Type 0} (r s : Replica S) → ◌≡◌ {A = Option (Replica S)} (Some r) (Some s) → r ≡ s
some_is r s same = cc

pub certified_replica : {S : Type 0} (m : Meaning S) (view : View) (chosen : List Batch) (text : List ℕ) (r : Replica S) → AreRestorable m view chosen → (is : IsSnapshotAt m view chosen text)
    → snapshots.restored m text ≡ Some r → r ≡ state m view (take is.place chosen)
certified_replica m view chosen text r may is read =
    some_is r (state m view (take is.place chosen)) (sym read ∙ snapshot_replica m may.service view chosen text may.viewed may.begins may.low may.of is)
