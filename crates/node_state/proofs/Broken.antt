-- What is left of a book that was to grow.
use Rattle.std.proofs.Common.{◌≡◌, ℕ, ◌++◌, OnErr, List, [], ◌∷◌, refl, ap, sym, ◌∙◌, Result, Ok, Err}
use Rattle.std.proofs.lemmas.List.{append-nil, append_assoc}
use Rattle.vote_book.specs.declared.entry.LogEntry.{LogEntry}
use Rattle.node_rules.specs.Nodes.{Node}
use Rattle.node_rules.specs.Entries.{AddsAtMost}
use Rattle.node_state.specs.Broken.{IsGrown, IsPartly}

-- what holds, holds on an error
pub on_err : {A E P : Type 0} (r : Result A E) → P → OnErr r P
on_err (Ok x) holds = tt
on_err (Err e) holds = holds

pub front_same : (now before : List LogEntry) → now ≡ before → IsGrown before now
front_same now before same = record { more = []; is = same ∙ sym (append-nil before) }

pub front_by : (before more : List LogEntry) → IsGrown before (before ++ more)
front_by before more = record { more = more; is = refl }

pub front_then : (before now after : List LogEntry) → IsGrown before now → IsGrown now after → IsGrown before after
front_then before now after first next =
    record { more = first.more ++ next.more; is = next.is ∙ (ap (λ (es : List LogEntry). es ++ next.more) first.is ∙ append_assoc before first.more next.more) }

-- nothing of what was to come is made
pub partly_none : (before now after : List LogEntry) → now ≡ before → IsGrown before after → IsPartly before now after
partly_none before now after same grown = record { begun = front_same now before same; ended = rw same grown }

-- all is made
pub partly_all : (before now after : List LogEntry) → now ≡ after → IsGrown before after → IsPartly before now after
partly_all before now after same grown = record { begun = rw same grown; ended = front_same after now (sym same) }

pub partly_in : (before start now end after : List LogEntry) → IsGrown before start → IsPartly start now end → IsGrown end after → IsPartly before now after
partly_in before start now end after first part next =
    record { begun = front_then before start now first part.begun; ended = front_then now end after part.ended next }

-- what is added is behind the others
pub front_of : (most : ℕ) (before after : List LogEntry) → AddsAtMost most before after → IsGrown before after
front_of most before after adding = record { more = adding.more; is = adding.is }

pub stop_at : {S : Type 0} (n m : Node S) (now after : List LogEntry) → now ≡ m.entries → IsGrown n.entries m.entries → IsGrown m.entries after → IsPartly n.entries now after
stop_at n m now after same first next = partly_in n.entries m.entries now m.entries after first (partly_none m.entries now m.entries same (front_same m.entries m.entries refl)) next

-- before the entry is made, and behind it
pub entry_none : (before now : List LogEntry) (entry : LogEntry) → now ≡ before → IsPartly before now (before ++ entry ∷ [])
entry_none before now entry same = partly_none before now (before ++ entry ∷ []) same (front_by before (entry ∷ []))

pub entry_made : (before now : List LogEntry) (entry : LogEntry) → now ≡ before ++ entry ∷ [] → IsPartly before now (before ++ entry ∷ [])
entry_made before now entry same = partly_all before now (before ++ entry ∷ []) same (front_by before (entry ∷ []))

pub made_same : (before start : List LogEntry) (entry made : LogEntry) → before ≡ start → entry ≡ made → before ++ entry ∷ [] ≡ start ++ made ∷ []
made_same before start entry made same is = rw (same, is) refl
