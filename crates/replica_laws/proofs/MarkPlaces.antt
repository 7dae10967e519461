-- The places of a book's marks: each is up to the last place of the book, and they rise.
use Rattle.std.proofs.Common.{◌≡◌, inl, inr, ℕ, ◌+◌, ◌<◌, ◌≤◌, List, [], ◌∷◌, ◌++◌, refl, ap, sym, arith, Option, Some, None}
use Rattle.smart_base.specs.Lists.{Each}
use Rattle.smart_base.specs.Views.{View}
use Rattle.smart_statements.specs.declared.report.Mark.{Mark}
use Rattle.vote_book.specs.Books.{Among, last_made}
use Rattle.vote_book.specs.declared.entry.LogEntry.{LogEntry}
use Rattle.vote_book.specs.declared.entry.LogEntry.TheVariants.{Opened, Wrote, Accepted, Promised, Synced, Decided, Installed, Marked}
use Rattle.agreement_laws.specs.Statements.{Statement}
use Rattle.agreement_laws.proofs.Growing.{HasReached-more}
use Rattle.agreement_laws.proofs.Lists.{each_among}
use Rattle.node_laws.specs.Sound.{AreRanged}
use Rattle.node_laws.specs.Restored.{IsSoundBook}

-- ---- entries among others

-- where an entry stands
pub record Stands (e : LogEntry) (es : List LogEntry) : Type 0 where
  pub before : List LogEntry
  pub after : List LogEntry
  pub split : es ≡ before ++ e ∷ after

pub stands : (e : LogEntry) (es : List LogEntry) → Among e es → Stands e es
stands e [] there = absurd there
stands e (x ∷ xs) (inl is) = record { before = []; after = xs; split = ap (λ (y : LogEntry). y ∷ xs) (sym is) }
stands e (x ∷ xs) (inr later) = let s = stands e xs later in record { before = x ∷ s.before; after = s.after; split = ap (λ (ys : List LogEntry). x ∷ ys) s.split }

-- what holds of each entry that stands there, holds of each
each_there : (P : LogEntry → Type 0) (es : List LogEntry) → ((e : LogEntry) → Among e es → P e) → Each P es
each_there P [] all = tt
each_there P (e ∷ es) all = (all e (inl refl), each_there P es (λ x there. all x (inr there)))

-- ---- marks up to a place

-- a mark is of a place up to a given one
abbrev pub IsMarkUpTo : ℕ → LogEntry → Type 0
IsMarkUpTo place (Opened o) = Unit {0}
IsMarkUpTo place (Wrote w) = Unit {0}
IsMarkUpTo place (Accepted a) = Unit {0}
IsMarkUpTo place (Promised p) = Unit {0}
IsMarkUpTo place (Synced s) = Unit {0}
IsMarkUpTo place (Decided d) = Unit {0}
IsMarkUpTo place (Installed i) = Unit {0}
IsMarkUpTo place (Marked m) = m.place ≤ place

pub up_to_more : (place more : ℕ) (e : LogEntry) → place ≤ more → IsMarkUpTo place e → IsMarkUpTo more e
up_to_more place more (Marked m) low up = omega (arith, low, up)
up_to_more place more _ low up = tt

-- each mark is made before its place's successor is
up_to_last : (views : List View) (entries : List LogEntry) → AreRanged views entries → (e : LogEntry) → Among e entries → IsMarkUpTo (last_made entries) e
up_to_last views entries ranged (Marked k) there =
    let s : Stands (Marked k) entries = stands (Marked k) entries there in
    let low : k.place < last_made s.before + 1 = (ranged s.before (Marked k) s.after s.split).within in
    let most : last_made s.before ≤ last_made (s.before ++ Marked k ∷ s.after) = HasReached-more s.before (Marked k ∷ s.after) (last_made s.before) (omega arith) in
    let same : last_made entries ≡ last_made (s.before ++ Marked k ∷ s.after) = ap last_made s.split in
    omega (arith, low, most, same)
up_to_last views entries ranged _ there = tt

-- so the marks of a sound book are of places up to the last that it has
pub marks_reached : (secret : List ℕ) (stated : List Statement) (views : List View) (entries : List LogEntry) → IsSoundBook secret stated views entries
    → Each (IsMarkUpTo (last_made entries)) entries
marks_reached secret stated views entries book = each_there (IsMarkUpTo (last_made entries)) entries (up_to_last views entries book.ranged)

-- ---- marks that rise

-- a mark is of a place from 1, above those that were marked before
abbrev pub IsAbove : List LogEntry → Mark → Type 0
IsAbove before m = (0 < m.place) × ((other : Mark) → Among (Marked other) before → other.place < m.place)

-- the mark of the next place is above marks up to a place
pub above_all : (place : ℕ) (es : List LogEntry) (m : Mark) → Each (IsMarkUpTo place) es → m.place ≡ place + 1 → IsAbove es m
above_all place es m up next = (omega (arith, next), lower)
  where
    lower : (other : Mark) → Among (Marked other) es → other.place < m.place
    lower other there = let most : other.place ≤ place = each_among (IsMarkUpTo place) es (Marked other) up there in omega (arith, next, most)

-- ---- keys

abbrev pub place_marked : LogEntry → Option ℕ
place_marked (Opened o) = None
place_marked (Wrote w) = None
place_marked (Accepted a) = None
place_marked (Promised p) = None
place_marked (Synced s) = None
place_marked (Decided d) = None
place_marked (Installed i) = None
place_marked (Marked m) = Some m.place

abbrev pub place_decided : LogEntry → Option ℕ
place_decided (Opened o) = None
place_decided (Wrote w) = None
place_decided (Accepted a) = None
place_decided (Promised p) = None
place_decided (Synced s) = None
place_decided (Decided d) = Some d.slot.place
place_decided (Installed i) = None
place_decided (Marked m) = None
