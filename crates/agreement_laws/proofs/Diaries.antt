-- What a lawful diary has before a promise, and that it votes once.
use Rattle.std.proofs.Common.{◌≡◌, ◌⊎◌, ⊎_elim, ℕ, ◌+◌, ◌-◌, ◌<◌, ◌≤◌, List, ◌∷◌, ◌++◌, Option, None, Some, refl, sym, ◌∙◌, arith}
use Rattle.std.specs.Prelude.{option_map}
use Rattle.smart_statements.specs.declared.report.LockCertificate.{LockCertificate}
use Rattle.vote_book.specs.declared.entry.Write.{Write}
use Rattle.vote_book.specs.declared.entry.Accept.{Accept}
use Rattle.vote_book.specs.declared.entry.Promise.{Promise}
use Rattle.vote_book.specs.declared.entry.LogEntry.{LogEntry}
use Rattle.vote_book.specs.declared.entry.LogEntry.TheVariants.{Wrote, Accepted, Promised, Synced}
use Rattle.vote_book.specs.Books.{last_made, Among, HasMade, IsBelow, HasBegun, MayWrite, MayAccept, Lawful}
use Rattle.vote_book.specs.BookReports.{lock_of, certificate_of}
use Rattle.vote_book.proofs.Locks.{made_most, lock_is, no_lock}
use Rattle.agreement_laws.proofs.Lists.{Split, split_at, in_order, among_before}

pub wrote_once : (book : List LogEntry) (a b : Write) → Lawful 0 0 book → Among (Wrote a) book → Among (Wrote b) book → a.slot ≡ b.slot → a.digest ≡ b.digest
wrote_once book a b lawful one two slot =
    let x = split_at book (Wrote a) one in
    let y = split_at book (Wrote b) two in
    let may_one : MayWrite x.before a = lawful x.before (Wrote a) x.after x.is in
    let may_two : MayWrite y.before b = lawful y.before (Wrote b) y.after y.is in
    ⊎_elim (λ l. absurd (may_two.first a l slot)) (⊎_elim (λ (same : Wrote a ≡ Wrote b). let it : a ≡ b = cc in cc) (λ r. absurd (may_one.first b r (sym slot))))
    (in_order x.before x.after (Wrote a) y.before y.after (Wrote b) (sym x.is ∙ y.is))

-- what a later promise would forbid stands before it
pub accepted_before : (book : List LogEntry) (a : Accept) (promise : Promise) (before after : List LogEntry) → Lawful 0 0 book → Among (Accepted a) book
    → book ≡ before ++ Promised promise ∷ after → IsBelow a.slot promise → Among (Accepted a) before
accepted_before book a promise before after lawful there split below =
    let x = split_at book (Accepted a) there in
    let may : MayAccept x.before a = lawful x.before (Accepted a) x.after x.is in
    ⊎_elim (λ l. l) (⊎_elim (λ (same : Accepted a ≡ Promised promise). absurd (cc)) (λ r. absurd (may.vote.promises promise r below)))
    (in_order x.before x.after (Accepted a) before after (Promised promise) (sym x.is ∙ split))

-- who has accepted at a place has made the place before it
low_or_high : (place : ℕ) → (place ≤ 1) ⊎ (1 < place)
low_or_high place = grind arith

made_within : (book : List LogEntry) (entry : LogEntry) (x : Split entry book) (place : ℕ) → HasMade x.before (place - 1) → place ≤ last_made book + 1
made_within book entry x place has =
    let most : place - 1 ≤ last_made book = made_most book (place - 1) (record { entry = has.entry; there = among_before entry has.entry book x has.there; made = has.made }) in
    omega (arith, most)

pub accepted_in_turn : (book : List LogEntry) (a : Accept) → Lawful 0 0 book → Among (Accepted a) book → a.slot.place ≤ last_made book + 1
accepted_in_turn book a lawful there =
    let x = split_at book (Accepted a) there in
    let may : MayAccept x.before a = lawful x.before (Accepted a) x.after x.is in
    ⊎_elim (λ (low : a.slot.place ≤ 1). omega (arith, low)) (λ (high : 1 < a.slot.place). made_within book (Accepted a) x a.slot.place (may.vote.in_turn high))
    (low_or_high a.slot.place)

-- there is a lock, of this regency at least
pub record IsAtLeast (found : Option LockCertificate) (regency : ℕ) : Type 0 where
  pub lock : LockCertificate
  pub is : found ≡ Some lock
  pub reached : regency ≤ lock.regency

-- who has accepted at the place behind its last has a lock, of that regency at least
pub accepted_is_lock : (book : List LogEntry) (view : ℕ) (a : Accept) → Among (Accepted a) book → a.slot.view ≡ view → a.slot.place ≡ last_made book + 1
    → IsAtLeast (option_map certificate_of (lock_of view book)) a.slot.regency
accepted_is_lock book view a there of_view next = by (lock_of view book) refl
  where
    by : (lock : Option Accept) → lock_of view book ≡ lock → IsAtLeast (option_map certificate_of lock) a.slot.regency
    by None is = absurd (no_lock view book a is there of_view next)
    by (Some b) is = let greatest = lock_is view book b is in record { lock = certificate_of b; is = refl; reached = greatest.greatest a there of_view next }

-- what is written in a regency after the first stands behind that regency's beginning, and keeps to it
pub wrote_begun : (book : List LogEntry) (w : Write) → Lawful 0 0 book → Among (Wrote w) book → 0 < w.slot.regency → HasBegun book w.slot w.digest
wrote_begun book w lawful there later =
    let x = split_at book (Wrote w) there in
    let may : MayWrite x.before w = lawful x.before (Wrote w) x.after x.is in
    in_all x (may.vote.synced later)
  where
    in_all : (x : Split (Wrote w) book) → HasBegun x.before w.slot w.digest → HasBegun book w.slot w.digest
    in_all x has = record {
      start = has.start;
      there = among_before (Wrote w) (Synced has.start) book x has.there;
      view = has.view;
      regency = has.regency;
      reached = has.reached;
      kept = has.kept;
    }
