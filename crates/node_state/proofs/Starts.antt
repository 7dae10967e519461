-- Where a regency begins, and whether it has begun.
use Rattle.std.proofs.Common.{◌≡◌, ℕ, ◌==◌, ◌||◌, Bool, true, false, cond, List, refl, ap, sym, ◌∙◌, Option, Some, option_map, is_some}
use Rattle.std.proofs.lemmas.Bool.{eqb-true}
use Rattle.smart_base.specs.Views.{View}
use Rattle.vote_book.specs.Standing.{first_start}
use Rattle.vote_book.specs.declared.entry.LogEntry.{LogEntry}
use Rattle.vote_book.specs.declared.entry.Start.{Start as Beginning}
use Rattle.regency_sync.specs.Synchronizers.{Synchronizer, is_synced}
use Rattle.node_rules.specs.Nodes.{Node, view_of, regency_of, start_at, is_begun, synchronizer_of}
use Rattle.node_rules.specs.Nodes as nodes
use Rattle.consensus_instance.specs.Nodes.{stated_start}
use Rattle.consensus_instance.specs.declared.start.Start.{Start}
use Rattle.node_state.proofs.Following.{some_mapped}

-- where a regency after the first begins
pub starts_at : (view : View) (regency : ℕ) (entries : List LogEntry) → (regency == 0) ≡ false
    → option_map stated_start (first_start view.number regency entries) ≡ option_map stated_start (start_at view regency entries)
starts_at view regency entries later =
    ap (λ o. option_map stated_start o) (sym (ap (λ t. cond t (Some (nodes.view_start view)) (first_start view.number regency entries)) later))

-- the regency in force has begun where the synchronizer takes part in it
synced_by : (first : Bool) (start : Beginning) (later : Option Beginning) → (first || is_some later) ≡ is_some (cond first (Some start) later)
synced_by true start later = refl
synced_by false start later = refl

pub begun_now : {S : Type 0} (n : Node S) (regency r : ℕ) (turn : Synchronizer) → (regency == r) ≡ true → r ≡ regency_of n → turn ≡ synchronizer_of n → is_synced turn ≡ is_begun n regency
begun_now n regency r turn test in_force same =
    ap (λ (s : Synchronizer). is_synced s) same
    ∙ (synced_by (regency_of n == 0) (nodes.view_start (view_of n)) (first_start (view_of n).number (regency_of n) n.entries)
    ∙ sym (ap (λ (k : ℕ). is_begun n k) (eqb-true regency r test ∙ in_force)))

-- another has begun where the book says where it begins
pub begun_by : {S : Type 0} (n inside : Node S) (regency : ℕ) (view : View) (start : Option Start) → inside ≡ n → view ≡ view_of n
    → start ≡ option_map stated_start (start_at view regency inside.entries) → is_some start ≡ is_begun n regency
begun_by {S = S} n inside regency view start same at is =
    ap (λ (o : Option Start). is_some o) is
    ∙ (some_mapped (start_at view regency inside.entries)
    ∙ (ap (λ (m : Node S). is_some (start_at view regency m.entries)) same ∙ ap (λ (v : View). is_some (start_at v regency n.entries)) at))
