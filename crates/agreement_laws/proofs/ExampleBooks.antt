-- The diaries of the four members' example are lawful and tidy.
use Rattle.std.proofs.Common.{◌≡◌, inl, inr, ⊎_elim, ℕ, nat_lt, true, false, ◌&&◌, ◌||◌, List, [], ◌∷◌, ◌++◌, refl, ap, arith}
use Rattle.smart_base.specs.Lists.{same_bytes}
use Rattle.smart_statements.specs.Batches.{Batch}
use Rattle.certificates.specs.Collects.{slot_of}
use Rattle.vote_book.specs.declared.entry.LogEntry.{LogEntry}
use Rattle.vote_book.specs.declared.entry.LogEntry.TheVariants as entries
use Rattle.vote_book.specs.declared.entry.Promise.{Promise}
use Rattle.vote_book.specs.declared.entry.Start.{Start}
use Rattle.vote_book.specs.Books.{Among, IsBelow, Lawful, last_made}
use Rattle.vote_book.specs.Tidy.{first_slot, IsTidyVote, IsTidy}
use Rattle.vote_book.specs.Admission.{admits}
use Rattle.vote_book.proofs.Growth.{grows, none_lawful}
use Rattle.vote_book.proofs.Tidy.{none_tidy, grows_tidy}
use Rattle.vote_book.proofs.Tested.{admitted, same_bytes_self}
use Rattle.agreement_laws.specs.Example.{four, first_voters, later_voters, opened, wrote, accepted, first_entries, later_entries, promised, start, started, decided, diary}
use Rattle.agreement_laws.proofs.Lists.{either}

-- ---- the diaries are lawful

push : (book : List LogEntry) (e : LogEntry) → Lawful 0 0 book → admits 0 0 book e ≡ true → Lawful 0 0 (book ++ e ∷ [])
push book e lawful is = grows 0 0 book e lawful (admitted 0 0 book e is)

-- the digest is the one that binds
bound : (digest : List ℕ) → ((same_bytes digest digest || false) && true) ≡ true
bound digest = ap (λ t. (t || false) && true) (same_bytes_self digest)

first_lawful : (secret digest : List ℕ) (batch : Batch) (member : ℕ) → Lawful 0 0 (first_entries secret digest batch member ++ promised ∷ [])
first_lawful secret digest batch member =
    push (first_entries secret digest batch member) promised
    (push (opened member ∷ wrote 0 digest ∷ []) (accepted secret 0 digest first_voters batch)
    (push (opened member ∷ []) (wrote 0 digest) (push [] (opened member) (none_lawful 0 0) refl) refl) refl) refl

full_lawful : (secret digest : List ℕ) (batch : Batch) (member : ℕ) → Lawful 0 0 (first_entries secret digest batch member ++ promised ∷ later_entries secret digest batch)
full_lawful secret digest batch member =
    let front = first_entries secret digest batch member ++ promised ∷ [] in
    push (front ++ started digest ∷ wrote 1 digest ∷ accepted secret 1 digest later_voters batch ∷ []) (decided secret digest batch)
    (push (front ++ started digest ∷ wrote 1 digest ∷ []) (accepted secret 1 digest later_voters batch)
    (push (front ++ started digest ∷ []) (wrote 1 digest) (push front (started digest) (first_lawful secret digest batch member) refl) (bound digest)) (bound digest)) refl

third_lawful : (secret digest : List ℕ) (batch : Batch) (member : ℕ) → Lawful 0 0 (opened member ∷ promised ∷ later_entries secret digest batch)
third_lawful secret digest batch member =
    let front = opened member ∷ promised ∷ [] in
    push (front ++ started digest ∷ wrote 1 digest ∷ accepted secret 1 digest later_voters batch ∷ []) (decided secret digest batch)
    (push (front ++ started digest ∷ wrote 1 digest ∷ []) (accepted secret 1 digest later_voters batch)
    (push (front ++ started digest ∷ []) (wrote 1 digest)
    (push front (started digest) (push (opened member ∷ []) promised (push [] (opened member) (none_lawful 0 0) refl) refl) refl) (bound digest)) (bound digest)) refl

pub diary_lawful : (secret digest : List ℕ) (batch : Batch) (member : ℕ) → Lawful 0 0 (diary secret digest batch member)
diary_lawful secret digest batch member =
    either (λ b. Lawful 0 0 b) (nat_lt member 3) (first_entries secret digest batch member ++ promised ∷ later_entries secret digest batch)
    (opened member ∷ promised ∷ later_entries secret digest batch) (full_lawful secret digest batch member) (third_lawful secret digest batch member)

-- ---- and tidy

first_vote : (before : List LogEntry) → last_made before ≡ 0 → IsTidyVote before (slot_of four 1 0)
first_vote before none = record { above = omega (arith, none); promised = λ some. absurd (omega arith) }

later_vote : (before : List LogEntry) → last_made before ≡ 0 → Among promised before → IsTidyVote before (slot_of four 1 1)
later_vote before none there = record { above = omega (arith, none); promised = λ some. there }

-- the regency that all promise
abbrev next : Promise
next = record { view = 0; regency = 1 }

not_below : (start : Start) (promise : Promise) → start.view ≡ 0 → start.regency ≡ 1 → promise ≡ next → IsBelow (first_slot start) promise → ⊥
not_below start promise of_view of_regency is below =
    let view : promise.view ≡ 0 = ap (λ (p : Promise). p.view) is in
    let regency : promise.regency ≡ 1 = ap (λ (p : Promise). p.regency) is in
    ⊎_elim (λ l. absurd (omega (arith, of_view, view, l))) (λ r. absurd (omega (arith, of_regency, regency, r.1))) below

-- the entry of the promise alone is one, and the regency has not begun

first_promised : (secret digest : List ℕ) (batch : Batch) (member : ℕ) (promise : Promise)
    → Among (entries.Promised promise) (first_entries secret digest batch member ++ promised ∷ []) → promise ≡ next
first_promised secret digest batch member promise (inl is) = absurd (cc)
first_promised secret digest batch member promise (inr (inl is)) = absurd (cc)
first_promised secret digest batch member promise (inr (inr (inl is))) = absurd (cc)
first_promised secret digest batch member promise (inr (inr (inr (inl is)))) = let same : entries.Promised promise ≡ entries.Promised next = is in cc
first_promised secret digest batch member promise (inr (inr (inr (inr none)))) = absurd none

first_begun : (secret digest : List ℕ) (batch : Batch) (member : ℕ) (other : Start)
    → Among (entries.Synced other) (first_entries secret digest batch member ++ promised ∷ []) → ⊥
first_begun secret digest batch member other (inl is) = absurd (cc)
first_begun secret digest batch member other (inr (inl is)) = absurd (cc)
first_begun secret digest batch member other (inr (inr (inl is))) = absurd (cc)
first_begun secret digest batch member other (inr (inr (inr (inl is)))) = absurd (cc)
first_begun secret digest batch member other (inr (inr (inr (inr none)))) = none

third_promised : (member : ℕ) (promise : Promise) → Among (entries.Promised promise) (opened member ∷ promised ∷ []) → promise ≡ next
third_promised member promise (inl is) = absurd (cc)
third_promised member promise (inr (inl is)) = let same : entries.Promised promise ≡ entries.Promised next = is in cc
third_promised member promise (inr (inr none)) = absurd none

third_begun : (member : ℕ) (other : Start) → Among (entries.Synced other) (opened member ∷ promised ∷ []) → ⊥
third_begun member other (inl is) = absurd (cc)
third_begun member other (inr (inl is)) = absurd (cc)
third_begun member other (inr (inr none)) = none

first_tidy : (secret digest : List ℕ) (batch : Batch) (member : ℕ) → IsTidy (first_entries secret digest batch member ++ promised ∷ [])
first_tidy secret digest batch member =
    grows_tidy (first_entries secret digest batch member) promised
    (grows_tidy (opened member ∷ wrote 0 digest ∷ []) (accepted secret 0 digest first_voters batch)
    (grows_tidy (opened member ∷ []) (wrote 0 digest) (grows_tidy [] (opened member) none_tidy tt) (first_vote (opened member ∷ []) refl))
    (first_vote (opened member ∷ wrote 0 digest ∷ []) refl)) tt

third_tidy : (member : ℕ) → IsTidy (opened member ∷ promised ∷ [])
third_tidy member = grows_tidy (opened member ∷ []) promised (grows_tidy [] (opened member) none_tidy tt) tt

full_tidy : (secret digest : List ℕ) (batch : Batch) (member : ℕ) → IsTidy (first_entries secret digest batch member ++ promised ∷ later_entries secret digest batch)
full_tidy secret digest batch member =
    let front = first_entries secret digest batch member ++ promised ∷ [] in
    grows_tidy (front ++ started digest ∷ wrote 1 digest ∷ accepted secret 1 digest later_voters batch ∷ []) (decided secret digest batch)
    (grows_tidy (front ++ started digest ∷ wrote 1 digest ∷ []) (accepted secret 1 digest later_voters batch)
    (grows_tidy (front ++ started digest ∷ []) (wrote 1 digest)
    (grows_tidy front (started digest) (first_tidy secret digest batch member)
    (record {
      promised = inr (inr (inr (inl refl)));
      promises = λ promise there below. not_below (start digest) promise refl refl (first_promised secret digest batch member promise there) below;
      once = λ other there of_view of_regency. first_begun secret digest batch member other there;
    })) (later_vote (front ++ started digest ∷ []) refl (inr (inr (inr (inl refl))))))
    (later_vote (front ++ started digest ∷ wrote 1 digest ∷ []) refl (inr (inr (inr (inl refl)))))) tt

later_tidy : (secret digest : List ℕ) (batch : Batch) (member : ℕ) → IsTidy (opened member ∷ promised ∷ later_entries secret digest batch)
later_tidy secret digest batch member =
    let front = opened member ∷ promised ∷ [] in
    grows_tidy (front ++ started digest ∷ wrote 1 digest ∷ accepted secret 1 digest later_voters batch ∷ []) (decided secret digest batch)
    (grows_tidy (front ++ started digest ∷ wrote 1 digest ∷ []) (accepted secret 1 digest later_voters batch)
    (grows_tidy (front ++ started digest ∷ []) (wrote 1 digest)
    (grows_tidy front (started digest) (third_tidy member)
    (record {
      promised = inr (inl refl);
      promises = λ promise there below. not_below (start digest) promise refl refl (third_promised member promise there) below;
      once = λ other there of_view of_regency. third_begun member other there;
    })) (later_vote (front ++ started digest ∷ []) refl (inr (inl refl)))) (later_vote (front ++ started digest ∷ wrote 1 digest ∷ []) refl (inr (inl refl)))) tt

pub diary_tidy : (secret digest : List ℕ) (batch : Batch) (member : ℕ) → IsTidy (diary secret digest batch member)
diary_tidy secret digest batch member =
    either (λ b. IsTidy b) (nat_lt member 3) (first_entries secret digest batch member ++ promised ∷ later_entries secret digest batch)
    (opened member ∷ promised ∷ later_entries secret digest batch) (full_tidy secret digest batch member) (later_tidy secret digest batch member)
