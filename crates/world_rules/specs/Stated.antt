-- What has been stated in a world, what became firm at its members, and the decisions among what has been stated.
use Rattle.std.specs.Prelude.{ℕ, ◌≡◌, ◌<◌, true, false, List, [], take, map, Option, Some, None}
use Rattle.smart_base.specs.Lists.{Each}
use Rattle.vote_book.specs.Books.{HasMade}
use Rattle.vote_book.specs.Entries.{entry_text}
use Rattle.book_laws.specs.BookCuts.{cut_at}
use Rattle.store_laws.specs.Restored.{restores}
use Rattle.world_rules.specs.Crashes.{bytes_held}
use Rattle.world_rules.specs.Fronts.{checkpoint_place}
use Rattle.std.specs.List.{flat_map}
use Rattle.smart_base.specs.Views.{View, present}
use Rattle.smart_statements.specs.Batches.{Batch}
use Rattle.vote_book.specs.declared.entry.LogEntry.{LogEntry}
use Rattle.replica_rules.specs.Replicas.{views_after}
use Rattle.replica_rules.specs.Seals.{digest_of}
use Rattle.agreement_laws.specs.Statements.{Statement, statements}
use Rattle.agreement_laws.specs.Law.{Witnessed}
use Rattle.agreement_laws.specs.Lists.{AllCertified}
use Rattle.world_rules.specs.Secrets.{group_secret}
use Rattle.world_rules.specs.Premises.{is_among}
use Rattle.world_rules.specs.InForce.{IsInForce}
use Rattle.world_rules.specs.Worlds.{Host, World, host_of}
use Rattle.world_rules.specs.declared.message.Content.{Content}
use Rattle.world_rules.specs.declared.message.Content.TheVariants as contents
use Rattle.world_rules.specs.declared.message.Sent.{Sent}

-- the statements of a content, at any depth, whose tags verify
abbrev pub stated_in : Content → List Statement
stated_in (contents.Message message) = statements group_secret message
stated_in (contents.Raw bytes) = []

-- the statements in everything that was sent, by whomever
abbrev pub stated : List Sent → List Statement
stated sent = flat_map (λ s. stated_in s.content) sent

-- the diary of a host: what became firm there, over all lives of its member
abbrev pub diary_of : {S : Type 0} → Option (Host S) → List LogEntry
diary_of None = []
diary_of (Some h) = h.life.diary

-- the diary of a member
abbrev pub diary : {S : Type 0} → World S → ℕ → List LogEntry
diary w member = diary_of (host_of w.hosts member)

-- the view in force behind some batches
abbrev pub view_behind : View → List Batch → View
view_behind view front = present (views_after view front)

-- batches of which each has a decision at its place among what has been stated, in the view that those before it make; the first stands at place 1
abbrev pub AreDecided : List Statement → View → List Batch → Type 0
AreDecided stated view batches = AllCertified group_secret digest_of stated (view_behind view) [] batches

-- A host with its diary. While its node runs, the firm part of the node's book is the cut of the diary at the place of the checkpoint with
-- which this life began, 0 without one. After its member has crashed, the devices restore the cut of the diary at the place of their newest
-- checkpoint, no more and no less. The diary has made either place, if it is not 0.
pub record HasDiary {S : Type 0} (h : Host S) : Type 0 where
  pub up : h.up ≡ true → take h.node.firm h.node.entries ≡ cut_at h.node.opening h.life.diary
  pub up_made : h.up ≡ true → 0 < h.node.opening → HasMade h.life.diary h.node.opening
  pub down : h.up ≡ false → (restores (bytes_held h.store)).entries ≡ map entry_text (cut_at (checkpoint_place (restores (bytes_held h.store)).present) h.life.diary)
  pub down_made : h.up ≡ false → 0 < checkpoint_place (restores (bytes_held h.store)).present → HasMade h.life.diary (checkpoint_place (restores (bytes_held h.store)).present)

-- A world in which the diaries of members witness what they have stated, in each view in which members decide. Each chosen batch has a decision among
-- what has been stated.
pub record IsWitnessed {S : Type 0} (w : World S) : Type 0 where
  pub diaries : Each HasDiary w.hosts
  pub witnessed : (v : View) → IsInForce w v → Witnessed group_secret digest_of v (is_among w.faulty) (diary w) (stated w.sent)
  pub chosen : AreDecided (stated w.sent) w.view w.chosen
