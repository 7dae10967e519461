-- What a pass of rules leaves in the book where it is stopped half-way.
use Rattle.std.proofs.Common.{◌≡◌, ◌++◌, List, [], ◌∷◌, refl, ap, ℕ}
use Rattle.smart_base.specs.Lists.{Each}
use Rattle.smart_service.specs.Services.{Meaning}
use Rattle.node_rules.specs.Nodes.{Node}
use Rattle.node_rules.specs.Steps.{Row, row, install_row, deliver_row, turn_rows, vote_rows, end_rows, pass}
use Rattle.node_rules.specs.Transfers.{installs}
use Rattle.node_rules.specs.declared.node.Cause.{Cause}
use Rattle.node_rules.specs.declared.node.Fired.{Fired}
use Rattle.node_rules.proofs.Entries.{RowsAdd, installs_adds, deliver_adds, turns_add, votes_add, end_adds}
use Rattle.node_state.specs.Broken.{IsGrown, IsPartly}
use Rattle.node_state.proofs.Broken.{front_same, front_then, front_of, partly_in}

-- a row that only adds to the book
abbrev pub RowGrows : {S : Type 0} → Row S → Type 0
RowGrows {S} r = (n : Node S) (cause : Cause) (fired : List Fired) → IsGrown n.entries (r n cause fired).0.entries

rows_grow : {S : Type 0} (mosts : List ℕ) (rows : List (Row S)) → RowsAdd mosts rows → Each RowGrows rows
rows_grow [] [] each = tt
rows_grow [] (r ∷ rows) each = absurd each
rows_grow (most ∷ mosts) [] each = absurd each
rows_grow (most ∷ mosts) (r ∷ rows) each = (λ n cause fired. front_of most n.entries (r n cause fired).0.entries (each.0 n cause fired), rows_grow mosts rows each.1)

-- so does each rule
pub install_grows : {S : Type 0} (m : Meaning S) → RowGrows (install_row m)
install_grows m n cause fired = front_of 1 n.entries (installs m n).entries (installs_adds m n)

pub deliver_grows : {S : Type 0} (m : Meaning S) → RowGrows (deliver_row m)
deliver_grows m n cause fired = front_of 1 n.entries (deliver_row m n cause fired).0.entries (deliver_adds m n cause fired)

pub turns_grow : (S : Type 0) → Each (RowGrows {S = S}) turn_rows
turns_grow S = rows_grow (2 ∷ 0 ∷ 1 ∷ 0 ∷ []) turn_rows (turns_add S)

pub votes_grow : (S : Type 0) → Each (RowGrows {S = S}) vote_rows
votes_grow S = rows_grow (0 ∷ 1 ∷ 1 ∷ []) vote_rows (votes_add S)

pub ends_grow : (S : Type 0) → Each (RowGrows {S = S}) end_rows
ends_grow S = rows_grow (1 ∷ 0 ∷ 0 ∷ []) end_rows (end_adds S)

pub each_grows : {S : Type 0} (some others : List (Row S)) → Each RowGrows some → Each RowGrows others → Each RowGrows (some ++ others)
each_grows [] others first last = last
each_grows (r ∷ some) others first last = (first.0, each_grows some others first.1 last)

-- and a pass
pub pass_grows : {S : Type 0} (rows : List (Row S)) (n : Node S) (cause : Cause) (fired : List Fired) → Each RowGrows rows → IsGrown n.entries (pass rows n cause fired).0.entries
unfolding pass
pass_grows [] n cause fired each = front_same n.entries n.entries refl
pass_grows (r ∷ rows) n cause fired each =
    front_then n.entries (r n cause fired).0.entries _ (each.0 n cause fired) (pass_grows rows (r n cause fired).0 cause (r n cause fired).1 each.1)

-- stopped in the first row
pub stops_here : {S : Type 0} (r : Row S) (rows : List (Row S)) (n now : Node S) (cause : Cause) (fired : List Fired) → Each RowGrows rows
    → IsPartly n.entries now.entries (r n cause fired).0.entries → IsPartly n.entries now.entries (pass (r ∷ rows) n cause fired).0.entries
unfolding pass
stops_here r rows n now cause fired each part =
    partly_in n.entries n.entries now.entries (r n cause fired).0.entries _ (front_same n.entries n.entries refl) part (pass_grows rows (r n cause fired).0 cause (r n cause fired).1 each)

-- or in a later one
pub stops_later : {S : Type 0} (r : Row S) (rows : List (Row S)) (n next now : Node S) (cause : Cause) (fired told : List Fired) → RowGrows r → r n cause fired ≡ (next, told)
    → IsPartly next.entries now.entries (pass rows next cause told).0.entries → IsPartly n.entries now.entries (pass (r ∷ rows) n cause fired).0.entries
unfolding pass
stops_later {S = S} r rows n next now cause fired told grows is part =
    partly_in n.entries (r n cause fired).0.entries now.entries (pass rows (r n cause fired).0 cause (r n cause fired).1).0.entries _ (grows n cause fired)
    (rw (ap (λ (x : Node S × List Fired). x.0) is, ap (λ (x : Node S × List Fired). x.1) is) part) (front_same _ _ refl)

-- rows behind others
pass_both : {S : Type 0} (some others : List (Row S)) (n : Node S) (cause : Cause) (fired : List Fired)
    → pass (some ++ others) n cause fired ≡ pass others (pass some n cause fired).0 cause (pass some n cause fired).1
unfolding pass
pass_both [] others n cause fired = refl
pass_both (r ∷ some) others n cause fired = pass_both some others (r n cause fired).0 cause (r n cause fired).1

-- stopped in the first of them
pub stops_within : {S : Type 0} (some others : List (Row S)) (n now : Node S) (cause : Cause) (fired : List Fired) → Each RowGrows others
    → IsPartly n.entries now.entries (pass some n cause fired).0.entries → IsPartly n.entries now.entries (pass (some ++ others) n cause fired).0.entries
stops_within some others n now cause fired each part =
    rw (pass_both some others n cause fired)
    (partly_in n.entries n.entries now.entries (pass some n cause fired).0.entries _ (front_same n.entries n.entries refl) part
    (pass_grows others (pass some n cause fired).0 cause (pass some n cause fired).1 each))

-- or behind them
pub stops_behind : {S : Type 0} (some others : List (Row S)) (n next now : Node S) (cause : Cause) (fired told : List Fired) → Each RowGrows some → pass some n cause fired ≡ (next, told)
    → IsPartly next.entries now.entries (pass others next cause told).0.entries → IsPartly n.entries now.entries (pass (some ++ others) n cause fired).0.entries
stops_behind {S = S} some others n next now cause fired told each is part =
    rw (pass_both some others n cause fired)
    (partly_in n.entries (pass some n cause fired).0.entries now.entries (pass others (pass some n cause fired).0 cause (pass some n cause fired).1).0.entries _ (pass_grows some n cause fired each)
    (rw (ap (λ (x : Node S × List Fired). x.0) is, ap (λ (x : Node S × List Fired). x.1) is) part) (front_same _ _ refl))

-- what a rule leaves, as a row
pub row_is : {S : Type 0} (rule : Node S → Node S) (tells : Node S → List Fired) (n next : Node S) (cause : Cause) (fired told : List Fired) → next ≡ rule n → told ≡ fired ++ tells n
    → row rule tells n cause fired ≡ (next, told)
row_is rule tells n next cause fired told same is = rw (same, is) refl
