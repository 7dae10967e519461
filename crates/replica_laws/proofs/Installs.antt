-- What the rule that installs leaves of a node, and what it adds to its book.
use Rattle.std.proofs.Common.{◌≡◌, ⊎_elim, ◌⊎◌, inl, inr, ℕ, ◌==◌, ◌++◌, subst, sym, Bool, true, false, cond, List, [], ◌∷◌, length, refl, ap, ◌∙◌, Option, Some, None, is_some, Result, Ok, Err}
use Rattle.std.specs.List.{flat_map}
use Rattle.smart_base.specs.Views.{present}
use Rattle.smart_statements.specs.Batches.{Batch}
use Rattle.smart_service.specs.Services.{Meaning}
use Rattle.smart_service.specs.declared.replica.Replica.{Replica}
use Rattle.state_transfer.specs.Fetches.{finished}
use Rattle.state_transfer.specs.declared.fetch.Fetch.{Fetch}
use Rattle.state_transfer.specs.declared.fetch.Spoiled.{Spoiled}
use Rattle.vote_book.specs.declared.entry.Installation.{Installation}
use Rattle.vote_book.specs.declared.entry.LogEntry.{LogEntry}
use Rattle.vote_book.specs.declared.entry.LogEntry.TheVariants.{Installed}
use Rattle.replica_rules.specs.Replicas.{delivered, executed_lines}
use Rattle.node_rules.specs.Nodes.{Node, next_place}
use Rattle.node_rules.specs.Rules.{begun_in, delivery}
use Rattle.node_rules.specs.Reopening.{decided_of}
use Rattle.node_rules.specs.Transfers.{installing, install_replica, is_of_group, spoil, install_by, install_fetch, install_told, installs}
use Rattle.node_rules.specs.Deliveries.{delivery_in}
use Rattle.node_rules.specs.declared.node.Delivery.{Delivery}
use Rattle.node_rules.specs.declared.node.Fired.{Fired}
use Rattle.node_rules.specs.declared.node.Fired.TheVariants as fires
use Rattle.node_rules.proofs.Rulewise.{none_installs}
use Rattle.node_laws.proofs.Restored.{decided_none}
use Rattle.agreement_laws.proofs.Lists.{either}

-- a book with one installation more
pub record OneMore (before after : List LogEntry) : Type 0 where
  pub installation : Installation
  pub is : after ≡ before ++ Installed installation ∷ []

-- a node of the same name, secret and opening, of which as much was restored and is firm, and with the same batch that waits; its book has one
-- installation more at most
pub record Takes {S : Type 0} (n n' : Node S) : Type 0 where
  pub named : n'.id ≡ n.id
  pub shared : n'.secret ≡ n.secret
  pub opening_is : n'.opening ≡ n.opening
  pub restored_is : n'.restored ≡ n.restored
  pub firm_is : n'.firm ≡ n.firm
  pub waits : n'.waiting ≡ n.waiting
  pub book : (n'.entries ≡ n.entries) ⊎ OneMore n.entries n'.entries

takes-same : {S : Type 0} (n : Node S) → Takes n n
takes-same n = record { named = refl; shared = refl; opening_is = refl; restored_is = refl; firm_is = refl; waits = refl; book = inl refl }

takes-spoil : {S : Type 0} (n : Node S) (f : Fetch) → Takes n (spoil n f)
unfolding spoil
takes-spoil n f = record { named = refl; shared = refl; opening_is = refl; restored_is = refl; firm_is = refl; waits = refl; book = inl refl }

takes-replica : {S : Type 0} (n : Node S) (f : Fetch) (r : Replica S) → Takes n (install_replica n f r)
unfolding install_replica
takes-replica n f r = record { named = refl; shared = refl; opening_is = refl; restored_is = refl; firm_is = refl; waits = refl; book = inr (record { installation = _; is = refl }) }

takes-install_by : {S : Type 0} (n : Node S) (f : Fetch) (made : Result (Replica S) Spoiled) → Takes n (install_by n f made)
takes-install_by {S = S} n f (Ok r) = either (λ (x : Node S). Takes n x) (is_of_group n r) (install_replica n f r) (spoil n f) (takes-replica n f r) (takes-spoil n f)
takes-install_by n f (Err why) = takes-spoil n f

takes-install_fetch : {S : Type 0} (m : Meaning S) (n : Node S) (due : Option Fetch) → Takes n (install_fetch m n due)
unfolding install_fetch
takes-install_fetch m n None = takes-same n
takes-install_fetch m n (Some f) = takes-install_by n f (finished m f)

pub takes-installs : {S : Type 0} (m : Meaning S) (n : Node S) → Takes n (installs m n)
unfolding installs
takes-installs m n = takes-install_fetch m n (installing n)

-- what holds of a book, and then of one with an installation more, holds of the book behind it
by-book : {S : Type 0} (n n' : Node S) → Takes n n' → (P : List LogEntry → Type 0) → ((es : List LogEntry) (i : Installation) → P es → P (es ++ Installed i ∷ [])) → P n.entries → P n'.entries
by-book n n' takes P more is =
    ⊎_elim (λ (same : n'.entries ≡ n.entries). subst P (sym same) is) (λ (one : OneMore n.entries n'.entries). subst P (sym one.is) (more n.entries one.installation is)) takes.book

pub book-installs : {S : Type 0} (m : Meaning S) (n : Node S) (P : List LogEntry → Type 0) → ((es : List LogEntry) (i : Installation) → P es → P (es ++ Installed i ∷ [])) → P n.entries
    → P (installs m n).entries
book-installs m n P more is = by-book n (installs m n) (takes-installs m n) P more is

-- it decides nothing
pub decided-installs : {S : Type 0} (past : ℕ) (m : Meaning S) (n : Node S) → decided_of past (installs m n).entries ≡ decided_of past n.entries
decided-installs past m n =
    book-installs m n (λ (es : List LogEntry). decided_of past es ≡ decided_of past n.entries) (λ es i is. decided_none past es (Installed i) refl ∙ is) refl

-- where a batch waits, nothing is installed
fetched-none : {S : Type 0} (m : Meaning S) (n : Node S) (due : Option Fetch) → due ≡ None → install_fetch m n due ≡ n
unfolding install_fetch
fetched-none m n None is = refl
fetched-none m n (Some f) is = absurd cc

pub installs-none : {S : Type 0} (m : Meaning S) (n : Node S) → is_some n.waiting ≡ true → installs m n ≡ n
unfolding installs
installs-none m n waits = fetched-none m n (installing n) (none_installs m n waits)

-- a view that begins is no delivery
pub quiet-begun : {S : Type 0} (r r' : Replica S) → flat_map delivery_in (begun_in r r') ≡ []
quiet-begun r r' =
    either (λ (fired : List Fired). flat_map delivery_in fired ≡ []) ((present r.views).number == (present r'.views).number) [] (fires.Viewed (present r'.views).number ∷ []) refl refl

-- an installation tells no delivery
quiet_by : {S : Type 0} (n : Node S) (place : ℕ) (r : Replica S) (t : Bool) → flat_map delivery_in (cond t (fires.Installed place ∷ begun_in n.replica r) (fires.Spoiled ∷ [])) ≡ []
quiet_by n place r true = quiet-begun n.replica r
quiet_by n place r false = refl

quiet_made : {S : Type 0} (m : Meaning S) (n : Node S) (f : Fetch) (made : Result (Replica S) Spoiled) → finished m f ≡ made → flat_map delivery_in (install_told m n (Some f)) ≡ []
unfolding install_told
quiet_made m n f (Ok r) is = rw is (quiet_by n f.plan.place r (is_of_group n r))
quiet_made m n f (Err why) is = rw is refl

quiet_told : {S : Type 0} (m : Meaning S) (n : Node S) (due : Option Fetch) → flat_map delivery_in (install_told m n due) ≡ []
unfolding install_told
quiet_told m n None = refl
quiet_told m n (Some f) = quiet_made m n f (finished m f) refl

pub quiet-installs : {S : Type 0} (m : Meaning S) (n : Node S) → flat_map delivery_in (install_told m n (installing n)) ≡ []
quiet-installs m n = quiet_told m n (installing n)

-- and the delivery of a batch tells one
abbrev pub delivery_of : {S : Type 0} → Meaning S → Node S → Batch → Delivery
delivery_of m n batch = record { place = next_place n; batch = batch; executed = length (executed_lines m n.replica batch) }

pub one-delivery : {S : Type 0} (m : Meaning S) (n : Node S) (batch : Batch) → flat_map delivery_in (delivery m n (Some batch)) ≡ delivery_of m n batch ∷ []
unfolding delivery
one-delivery m n batch = ap (λ (ds : List Delivery). delivery_of m n batch ∷ ds) (quiet-begun n.replica (delivered m n.replica batch))
