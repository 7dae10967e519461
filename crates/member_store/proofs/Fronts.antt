-- Fronts of a book, cut at the places of checkpoints.
use Rattle.std.proofs.Common.{◌≡◌, ⊎_elim, inl, inr, ℕ, ◌+◌, ◌-◌, ◌≤◌, nat_lt, Bool, true, false, cond, List, [], ◌∷◌, ◌++◌, length, take, drop, map, refl, sym, ap, ◌∙◌, subst, arith, length-append}
use Rattle.std.proofs.lemmas.List.{length-take, length-drop, length-map, map-append, take-map, drop-map, take-take, take-append-drop, take-append-le, drop-append-le, drop-drop}
use Rattle.std.proofs.Math.Seq.{take-add, take-append_seam, drop-append_seam}
use Rattle.vote_book.specs.Entries.{entry_text}
use Rattle.vote_book.specs.Books.{Among, HasMade}
use Rattle.vote_book.specs.declared.entry.Installation.{Installation}
use Rattle.vote_book.specs.declared.entry.LogEntry.TheVariants.{Installed}
use Rattle.vote_book.specs.declared.entry.LogEntry.{LogEntry}
use Rattle.book_laws.specs.BookCuts.{cut_at, installs_past, until_installed, InstallUpTo}
use Rattle.agreement_laws.proofs.Lists.{either}
use Rattle.book_laws.proofs.Lists.{among_either}
use Rattle.std.proofs.lemmas.Bool.{ltb-false}
use Rattle.book_laws.proofs.CutAgain.{cut_more, more_made}
use Rattle.store_laws.specs.Restored.{with}
use Rattle.store_laws.specs.Stops.{is_installed}
use Rattle.store_laws.specs.declared.job.Kept.{Kept}
use Rattle.world_rules.specs.Fronts.{checkpoint_place}
use Rattle.member_store.specs.Cuts.{InstallNothing, IsFrontOf, BringsBack}
use Rattle.member_store.proofs.CutLengths.{cut_fits}

-- the entries up to the first that installs a later place are a front
pub until_front : (place : ℕ) (book : List LogEntry) → take (length (until_installed place book)) book ≡ until_installed place book
until_front place [] = refl
until_front place (e ∷ es) =
    either (λ (xs : List LogEntry). take (length xs) (e ∷ es) ≡ xs) (installs_past place e) [] (e ∷ until_installed place es) refl (ap (λ (xs : List LogEntry). e ∷ xs) (until_front place es))

pub until_length : (place : ℕ) (book : List LogEntry) → length (until_installed place book) ≤ length book
until_length place [] = omega arith
until_length place (e ∷ es) =
    let rest = until_length place es in
    either (λ (xs : List LogEntry). length xs ≤ length (e ∷ es)) (installs_past place e) [] (e ∷ until_installed place es) (omega arith) (omega (arith, rest))

-- and install nothing past the place
pub until_upto : (place : ℕ) (book : List LogEntry) → InstallUpTo place (until_installed place book)
until_upto place [] i there = absurd there
until_upto place (e ∷ es) i there = by (installs_past place e) refl there (λ later. until_upto place es i later)
  where
    here : installs_past place e ≡ false → Installed i ≡ e → i.place ≤ place
    here low same =
        let less : nat_lt place i.place ≡ false = subst (λ (x : LogEntry). installs_past place x ≡ false) (sym same) low in
        ltb-false place i.place less

    by : (t : Bool) → installs_past place e ≡ t → Among (Installed i) (cond t [] (e ∷ until_installed place es)) → (Among (Installed i) (until_installed place es) → i.place ≤ place) → i.place ≤ place
    by true high there rest = absurd there
    by false low (inl same) rest = here low same
    by false low (inr later) rest = rest later

-- ---- entries that install

-- an entry that installs is one by its bytes
installed_text : (i : Installation) → is_installed (entry_text (Installed i)) ≡ true
unfolding is_installed entry_text
installed_text i = refl

-- bytes of entries of which none installs are of no installation
pub none_installed : (entries : List LogEntry) (i : Installation) → InstallNothing (map entry_text entries) → Among (Installed i) entries → ⊥
none_installed [] i none there = there
none_installed (e ∷ es) i none (inl same) =
    let is : is_installed (entry_text e) ≡ true = subst (λ (x : LogEntry). is_installed (entry_text x) ≡ true) same (installed_text i) in
    let isnt = none.0 in
    cc
none_installed (e ∷ es) i none (inr later) = none_installed es i none.1 later

-- ---- fronts

-- the same front of another book
pub front_same : (kept : Kept) (book other : List LogEntry) (count : ℕ) → IsFrontOf kept book count → count ≤ length other → take count other ≡ take count book → IsFrontOf kept other count
front_same kept book other count f few same = record {
  few = few;
  made = λ some. subst (λ (es : List LogEntry). HasMade es (checkpoint_place kept.present)) (sym same) (f.made some);
  upto = subst (λ (es : List LogEntry). InstallUpTo (checkpoint_place kept.present) es) (sym same) f.upto;
  entries = f.entries ∙ ap (λ (es : List LogEntry). map entry_text (cut_at (checkpoint_place kept.present) es)) (sym same);
}

pub front_more : (kept : Kept) (book more : List LogEntry) (count : ℕ) → IsFrontOf kept book count → IsFrontOf kept (book ++ more) count
front_more kept book more count f =
    let few = f.few in
    front_same kept book (book ++ more) count f (omega (arith, few, length-append book more)) (take-append-le count book more few)

pub taken_length : (count : ℕ) (book : List LogEntry) → count ≤ length book → length (take count book) ≡ count
taken_length count book few = omega (arith, few, length-take count book)

pub front_taken : (kept : Kept) (book : List LogEntry) (count : ℕ) → IsFrontOf kept book count → IsFrontOf kept (take count book) count
front_taken kept book count f =
    let long = taken_length count book f.few in
    front_same kept book (take count book) count f (omega (arith, long)) (take-take count count book (omega arith))

-- what is kept is no longer than the front
pub front_fits : (kept : Kept) (book : List LogEntry) (count : ℕ) → IsFrontOf kept book count → length kept.entries ≤ count
front_fits kept book count f =
    let long = taken_length count book f.few in
    let cut = cut_fits (checkpoint_place kept.present) (take count book) in
    let text : length kept.entries ≡ length (cut_at (checkpoint_place kept.present) (take count book)) =
    ap (λ (l : List (List ℕ)). length l) f.entries ∙ length-map (cut_at (checkpoint_place kept.present) (take count book)) entry_text in
    omega (arith, long, cut, text)

-- how many entries a front has: as many are missing as its cut is shorter than that of the whole book
pub front_count : (kept : Kept) (book : List LogEntry) (count : ℕ) → IsFrontOf kept book count → length book - (length (cut_at (checkpoint_place kept.present) book) - length kept.entries) ≡ count
front_count kept book count f =
    let place : ℕ = checkpoint_place kept.present in
    let front : List LogEntry = take count book in
    let behind : List LogEntry = drop count book in
    let few = f.few in
    let left = length-drop count book in
    let whole : cut_at place book ≡ cut_at place front ++ behind = ap (λ (es : List LogEntry). cut_at place es) (sym (take-append-drop count book)) ∙ cut_more place front behind f.made in
    let size : length (cut_at place book) ≡ length (cut_at place front) + length behind = ap (λ (es : List LogEntry). length es) whole ∙ length-append (cut_at place front) behind in
    let text : length kept.entries ≡ length (cut_at place front) = ap (λ (l : List (List ℕ)). length l) f.entries ∙ length-map (cut_at place front) entry_text in
    omega (arith, few, left, size, text)

-- ---- more is added to a front

module _ (book : List LogEntry) (count : ℕ) (added waits : List (List ℕ)) (rest : added ++ waits ≡ map entry_text (drop count book)) where
  rest_length : length added + length waits ≡ length book - count
  rest_length =
      let both = length-append added waits in
      let text : length (added ++ waits) ≡ length (drop count book) = ap (λ (l : List (List ℕ)). length l) rest ∙ length-map (drop count book) entry_text in
      let left = length-drop count book in
      omega (arith, both, text, left)

  added_is : added ≡ map entry_text (take (length added) (drop count book))
  added_is = sym (take-append_seam added waits) ∙ (ap (λ (l : List (List ℕ)). take (length added) l) rest ∙ take-map entry_text (length added) (drop count book))

  pub waits_is : waits ≡ map entry_text (drop (count + length added) book)
  waits_is =
      sym (drop-append_seam added waits)
      ∙ (ap (λ (l : List (List ℕ)). drop (length added) l) rest
      ∙ (drop-map entry_text (length added) (drop count book) ∙ ap (λ (es : List LogEntry). map entry_text es) (drop-drop (length added) count book)))

  pub front_added : (kept : Kept) → InstallNothing added → IsFrontOf kept book count → IsFrontOf (with kept added) book (count + length added)
  front_added kept none f =
      let few = f.few in
      let long = rest_length in
      let place : ℕ = checkpoint_place kept.present in
      let front : List LogEntry = take count book in
      let more : List LogEntry = take (length added) (drop count book) in
      let split : take (count + length added) book ≡ front ++ more = take-add count (length added) book in record {
        few = omega (arith, few, long);
        made = λ some. subst (λ (es : List LogEntry). HasMade es place) (sym split) (more_made place front more (f.made some));
        upto = subst (λ (es : List LogEntry). InstallUpTo place es) (sym split)
            (λ i there.
            ⊎_elim {C = i.place ≤ place} (λ old. f.upto i old) (λ new. absurd (none_installed more i (subst (λ (l : List (List ℕ)). InstallNothing l) added_is none) new))
            (among_either (Installed i) front more there));
        entries =
            ap (λ (l : List (List ℕ)). l ++ added) f.entries
            ∙ (ap (λ (l : List (List ℕ)). map entry_text (cut_at place front) ++ l) added_is
            ∙ (sym (map-append entry_text (cut_at place front) more)
            ∙ ap (λ (es : List LogEntry). map entry_text es) (sym (cut_more place front more f.made) ∙ ap (λ (es : List LogEntry). cut_at place es) (sym split))));
      }

-- how many entries a store counts
pub counts_all : (firm past : ℕ) (rest : List (List ℕ)) (book : List LogEntry) → firm + past ≤ length book → rest ≡ map entry_text (drop (firm + past) book) → (firm + length rest) + past ≡ length book
counts_all firm past rest book few is =
    let text : length rest ≡ length (drop (firm + past) book) = ap (λ (l : List (List ℕ)). length l) is ∙ length-map (drop (firm + past) book) entry_text in
    let left = length-drop (firm + past) book in
    omega (arith, few, text, left)

-- what waits after what is given
pub given_rest : (count : ℕ) (book more : List LogEntry) → count ≤ length book → map entry_text (drop count book) ++ map entry_text more ≡ map entry_text (drop count (book ++ more))
given_rest count book more few = sym (map-append entry_text (drop count book) more) ∙ ap (λ (es : List LogEntry). map entry_text es) (sym (drop-append-le count book more few))

-- ---- what a torn gate may bring back

-- what is kept is a front of the other book, too
pub kept_aside : (kept other : Kept) (count : ℕ) (book aside : List LogEntry) → IsFrontOf kept book count → BringsBack count book aside other → IsFrontOf kept aside count
kept_aside kept other count book aside f b =
    let longer = b.longer in
    let few = b.other_is.few in
    front_same kept book aside count f (omega (arith, longer, few)) b.same

-- nothing but what is kept
pub brings_kept : (kept other : Kept) (count : ℕ) (book aside : List LogEntry) → IsFrontOf kept book count → BringsBack count book aside other → BringsBack count book aside kept
brings_kept kept other count book aside f b = record { same = b.same; more = count; longer = omega arith; other_is = kept_aside kept other count book aside f b }

-- a front of the same book
pub brings_front : (count more : ℕ) (book : List LogEntry) (other : Kept) → count ≤ more → IsFrontOf other book more → BringsBack count book book other
brings_front count more book other longer f = record { same = refl; more = more; longer = longer; other_is = f }

pub brings_given : (count : ℕ) (book more aside : List LogEntry) (other : Kept) → count ≤ length book → BringsBack count book aside other → BringsBack count (book ++ more) aside other
brings_given count book more aside other few b = record { same = b.same ∙ sym (take-append-le count book more few); more = b.more; longer = b.longer; other_is = b.other_is }
