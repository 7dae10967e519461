-- What an index says once an entry is added is what the entries say with it.
use Rattle.std.proofs.Common.{◌≡◌, ℕ, ◌<◌, ◌≤◌, max, Bool, true, false, ◌||◌, List, [], ◌∷◌, ◌++◌, length, Option, None, Some, IfSome, refl, ap, sym, subst, ◌∙◌, arith, length-append}
use Rattle.std.specs.List.{list_any}
use Rattle.smart_base.specs.Lists.{or_else}
use Rattle.vote_book.specs.declared.entry.LogEntry.{LogEntry}
use Rattle.vote_book.specs.declared.book.accepts.OpenAccept.{OpenAccept}
use Rattle.vote_book.specs.declared.book.index.BookIndex.{BookIndex}
use Rattle.vote_book.specs.Books.{number_or, place_made, latest_made, last_made}
use Rattle.vote_book.specs.Admission.{writes_in, accepts_in, makes, forbids, begins}
use Rattle.vote_book.specs.BookIndex.{IsIndexOf, Adds, open_behind, entry_at, maker_behind}
use Rattle.vote_book.specs.Standing.{start_by}
use Rattle.vote_book.specs.declared.entry.Start.{Start}
use Rattle.vote_book.proofs.Standing.{start_push}
use Rattle.vote_book.proofs.Last.{latest_push, last_push}
use Rattle.vote_book.proofs.Reports.{maker_push, maker_within, open_push}

or_nothing : (a : Bool) → (a || false) ≡ a
or_nothing true = refl
or_nothing false = refl

or_assoc : (a b c : Bool) → (a || (b || c)) ≡ ((a || b) || c)
or_assoc true b c = refl
or_assoc false b c = refl

pub any_push : {A : Type 0} (p : A → Bool) (xs : List A) (x : A) → list_any p (xs ++ x ∷ []) ≡ (list_any p xs || p x)
any_push p [] x = or_nothing (p x)
any_push p (y ∷ ys) x = ap (λ b. p y || b) (any_push p ys x) ∙ or_assoc (p y) (list_any p ys) (p x)

-- an index of entries, and one more
pub added : (entries : List LogEntry) (e : LogEntry) (old new : BookIndex) → IsIndexOf entries old → Adds (length entries) e old new → IsIndexOf (entries ++ e ∷ []) new
added entries e old new is adds = record {
  written = λ slot. adds.written slot ∙ (ap (λ b. b || writes_in slot e) (is.written slot) ∙ sym (any_push (writes_in slot) entries e));
  accepted = λ slot. adds.accepted slot ∙ (ap (λ b. b || accepts_in slot e) (is.accepted slot) ∙ sym (any_push (accepts_in slot) entries e));
  made = λ place. adds.made place ∙ (ap (λ b. b || makes place e) (is.made place) ∙ sym (any_push (makes place) entries e));
  latest = adds.latest ∙ (ap (λ (o : Option ℕ). or_else (place_made e) o) is.latest ∙ sym (latest_push entries e));
  last = adds.last ∙ (ap (λ (n : ℕ). max n (number_or (place_made e) 0)) is.last ∙ sym (last_push entries e));
  promised = λ slot. adds.promised slot ∙ (ap (λ b. b || forbids slot e) (is.promised slot) ∙ sym (any_push (forbids slot) entries e));
  maker = ap (λ (m : Option ℕ). entry_at m (entries ++ e ∷ [])) (adds.maker
      ∙ (ap (λ (o : Option ℕ). maker_behind (length entries) o old.last (place_made e) old.maker) is.latest
      ∙ ap (λ (n : ℕ). maker_behind (length entries) (latest_made entries) n (place_made e) old.maker) is.last))
      ∙ maker_push entries e old.maker is.maker is.maker_within;
  maker_within = subst (λ (m : Option ℕ). IfSome m (λ n. n < length (entries ++ e ∷ []))) (sym adds.maker)
      (maker_within entries e old.maker old.latest old.last (place_made e) is.maker_within);
  pending = adds.pending
      ∙ (ap (λ (n : ℕ). open_behind (length entries) n e old.pending) is.last
      ∙ (ap (λ (xs : List OpenAccept). open_behind (length entries) (last_made entries) e xs) is.pending ∙ sym (open_push entries e)));
  begun = λ slot digest. adds.begun slot digest ∙ (ap (λ b. b || begins slot digest e) (is.begun slot digest) ∙ sym (any_push (begins slot digest) entries e));
  starts = λ view regency. adds.starts view regency ∙ (ap (λ (o : Option Start). or_else o (start_by view regency e)) (is.starts view regency) ∙ sym (start_push view regency entries e));
}

-- what a list has at least it has with one more
pub more : {A : Type 0} (count : Option ℕ) (xs : List A) (x : A) → IfSome count (λ n. n ≤ length xs) → IfSome count (λ n. n ≤ length (xs ++ x ∷ []))
more None xs x within = tt
more (Some n) xs x within = omega (arith, length-append xs (x ∷ []))
