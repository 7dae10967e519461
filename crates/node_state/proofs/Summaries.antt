-- What a node that has kept nothing of a view keeps beside its book.
use Rattle.std.proofs.Common.{◌≡◌, ℕ, ◌+◌, ◌≤◌, ◌++◌, Bool, List, refl, ap, ◌∙◌, Option, None, is_some, option_map}
use Rattle.smart_base.specs.Views.{View}
use Rattle.vote_book.specs.Books.{last_made}
use Rattle.vote_book.specs.Standing.{first_start, own_votes}
use Rattle.vote_book.specs.declared.votes.OwnVotes.{OwnVotes}
use Rattle.vote_book.specs.declared.entry.LogEntry.{LogEntry}
use Rattle.regency_sync.specs.Synchronizers.{Synchronizer, resumed}
use Rattle.node_rules.specs.Nodes.{greatest_regency, start_at}
use Rattle.consensus_instance.specs.declared.start.Start.{Start as Beginnings}
use Rattle.consensus_instance.specs.Instances.{Instance, resuming}
use Rattle.consensus_instance.specs.Nodes.{slot_behind, stated_start}
use Rattle.consensus_instance.proofs.Entries.{resumed_instance}
use Rattle.node_state.specs.Following.{Follows}
use Rattle.node_state.proofs.Following.{begun_by}

follows_by : (id : ℕ) (view : View) (place : ℕ) (entries : List LogEntry) (regency : ℕ) (start first : Option Beginnings) (synced : Bool) (votes : OwnVotes)
    → regency ≡ greatest_regency view.number entries → start ≡ option_map stated_start (start_at view regency entries) → first ≡ option_map stated_start (first_start view.number regency entries) → synced ≡ is_some first
    → votes ≡ own_votes (slot_behind view.number place regency) entries → last_made entries ≤ place
    → Follows id view place None entries (resuming id view place regency start votes) (resumed id view regency synced)
follows_by id view place entries regency start first synced votes greatest starts begins begun voted last = record {
  room = λ some. absurd (cc);
  instance = resumed_instance id view place entries regency start votes greatest starts voted;
  member = refl;
  viewed = refl;
  regency = refl;
  synced = begun ∙ begun_by view.number regency entries first begins;
  made = last;
}

pub summaries_follow : (id : ℕ) (view own other : View) (place : ℕ) (entries pushed : List LogEntry) (number regency next : ℕ) (start first : Option Beginnings) (synced : Bool) (votes : OwnVotes) (i : Instance) (s : Synchronizer)
    → own ≡ view → other ≡ view → number ≡ view.number → pushed ≡ entries → regency ≡ greatest_regency number pushed → start ≡ option_map stated_start (start_at view regency entries) → first ≡ option_map stated_start (first_start number regency entries)
    → synced ≡ is_some first → next ≡ place → votes ≡ own_votes (record { view = number; place = next + 1; regency = regency }) entries → i ≡ resuming id own place regency start votes → s ≡ resumed id other regency synced
    → last_made entries ≤ place → Follows id view place None entries i s
summaries_follow id view own other place entries pushed number regency next start first synced votes i s owned lent at all greatest starts begins begun behind voted i_is s_is last =
    rw (i_is, s_is, owned, lent) (follows_by id view place entries regency start first synced votes
    (greatest ∙ (ap (λ n. greatest_regency n pushed) at ∙ ap (λ es. greatest_regency view.number es) all))
    starts
    (begins ∙ ap (λ n. option_map stated_start (first_start n regency entries)) at)
    begun
    (voted ∙ (ap (λ n. own_votes (record { view = n; place = next + 1; regency = regency }) entries) at ∙ ap (λ p. own_votes (slot_behind view.number p regency) entries) behind))
    last)
