-- A crash leaves a front of one book, and what it leaves opens as a store that holds this front.
use Rattle.std.proofs.Common.{◌≡◌, ◌⊎◌, inl, inr, ℕ, ◌+◌, ◌-◌, ◌≤◌, min, Bool, true, false, cond, List, [], ◌∷◌, length, take, drop, map, Option, Some, None, IfSome, refl, sym, ap, ◌∙◌, subst, arith}
use Rattle.std.proofs.lemmas.List.{take-take, drop_all}
use Rattle.vote_book.specs.Entries.{entry_text}
use Rattle.vote_book.specs.declared.entry.LogEntry.{LogEntry}
use Rattle.store_form.specs.declared.checkpoint.Checkpoint.{Checkpoint}
use Rattle.store_laws.specs.Restored.{Images, restores, with, switched}
use Rattle.store_laws.specs.States.{StoreState, greatest, is_torn, MayLeave, store_opened}
use Rattle.store_laws.specs.Stands.{at_rest}
use Rattle.store_laws.specs.Lives.{StoreWire, StoreNext, no_bytes, nothing}
use Rattle.store_laws.specs.Logs.{MakesBy, Makes}
use Rattle.store_laws.specs.Asked.{IsOneOf, Snapshot}
use Rattle.store_laws.specs.Tails.{aimed_at}
use Rattle.store_laws.specs.declared.job.Kept.{Kept}
use Rattle.store_laws.specs.declared.job.Tail.{Tail}
use Rattle.store_laws.specs.declared.job.Ending.{Ending}
use Rattle.store_laws.specs.declared.job.Ending.TheVariants.{Closes, Repairs, Adds, Switches}
use Rattle.store_laws.specs.declared.job.StoreCall.{StoreCall}
use Rattle.store_laws.proofs.Restores.{store_restores}
use Rattle.store_laws.proofs.Crashes.{empty_wire}
use Rattle.store_laws.proofs.Goes.{own_opened, own_leaves}
use Rattle.store_laws.proofs.Logged.{log_opened}
use Rattle.store_laws.proofs.Asked.{snapshots_opened}
use Rattle.store_laws.proofs.Given.{calm_stake}
use Rattle.durable_store.proofs.Sounds.{settled_sound}
use Rattle.world_rules.specs.Crashes.{is_unclosed, written_book, still_aside}
use Rattle.world_rules.specs.Fronts.{checkpoint_place}
use Rattle.member_store.specs.Cuts.{MendsBy, MendsIn, IsFrontOf, BringsBack, IsTailOf, HoldsWritten, LeavesFront}
use Rattle.member_store.proofs.Fronts.{taken_length, front_taken, front_fits, front_added, kept_aside, brings_front}
use Rattle.member_store.proofs.Has.{both_ways, calm_parts}
use Rattle.member_store.proofs.HasGone.{back_still}

-- the checkpoint of no switch
abbrev no_next : Checkpoint
no_next = record { generation = 0; snapshot = [] }

few_if : (t : Bool) (es : List LogEntry) → length es ≤ greatest → length (cond t es []) ≤ greatest
few_if true es few = few
few_if false es few = omega arith

firm_number : (size count : ℕ) → size ≤ count → count ≤ greatest → min size greatest + (count - size) ≡ count
firm_number size count low few = omega (arith, low, few)

-- ---- bytes that are opened

-- What the next life keeps, and what it may restore instead: fronts of one book, with all that is firm.
record Chosen (all : List (List ℕ)) (left : Images) (book : List LogEntry) (count : ℕ) : Type 0 where
  now : Kept
  instead : Kept
  wire : StoreWire left now instead
  upto : ℕ
  more : ℕ
  now_is : IsFrontOf now book upto
  instead_is : IsFrontOf instead book more
  least : count ≤ upto
  longer : upto ≤ more
  now_asked : Snapshot (IsOneOf all) now
  instead_asked : Snapshot (IsOneOf all) instead

module _ (all : List (List ℕ)) (left : Images) (book : List LogEntry) (count : ℕ) (few : length book ≤ greatest) (c : Chosen all left book count) where
  restored_now : restores left ≡ c.now
  restored_now = store_restores left c.now c.instead c.wire

  restored_front : IsFrontOf (restores left) book c.upto
  restored_front = subst (λ (k : Kept). IsFrontOf k book c.upto) (sym restored_now) c.now_is

  restored_fits : length (restores left).entries ≤ c.upto
  restored_fits = front_fits (restores left) book c.upto restored_front

  -- the book of the next life
  abbrev front : List LogEntry
  front = take c.upto book

  front_length : length front ≡ c.upto
  front_length = taken_length c.upto book c.now_is.few

  -- all of it is firm, or left out
  firm_all : min (length (restores left).entries) greatest + (c.upto - length (restores left).entries) ≡ c.upto
  firm_all =
      let low = restored_fits in
      let size = c.now_is.few in
      firm_number (length (restores left).entries) c.upto low (omega (arith, size, few))

  brings_instead : BringsBack c.upto front book c.instead
  brings_instead = record { same = sym (take-take c.upto c.upto book (omega arith)); more = c.more; longer = c.longer; other_is = c.instead_is }

  back_opened : is_unclosed (store_opened left) ≡ true → BringsBack (min (length (restores left).entries) greatest + (c.upto - length (restores left).entries)) front (still_aside (store_opened left) book) c.instead
  back_opened =
      back_still (store_opened left) (min (length (restores left).entries) greatest + (c.upto - length (restores left).entries)) front book c.instead
      (λ torn. subst (λ (n : ℕ). BringsBack n front book c.instead) (sym firm_all) brings_instead)

  opened_book : (place : ℕ) → HoldsWritten all (store_opened left) (c.upto - length (restores left).entries) (checkpoint_place (restores left).present) place front (still_aside (store_opened left) book)
  opened_book place = record {
    aim = at_rest c.now c.instead no_next;
    written = None;
    own = own_opened left c.now c.instead no_next c.wire;
    logs = (log_opened left c.now c.instead no_next).0;
    stakes = tt;
    snapshots = snapshots_opened (IsOneOf all) left c.now c.instead no_next c.now_asked c.instead_asked;
    mends = tt;
    kept = subst (λ (n : ℕ). IsFrontOf c.now front n) (sym firm_all) (front_taken c.now book c.upto c.now_is);
    low = subst (λ (k : Kept). checkpoint_place c.now.present ≤ checkpoint_place k.present) (sym restored_now) (omega arith);
    adds = tt;
    rest = sym (ap (λ (n : ℕ). map entry_text (drop n front)) firm_all ∙ ap (λ (es : List LogEntry). map entry_text es) (let long = front_length in drop_all c.upto front (omega (arith, long))));
    tail = tt;
    next = tt;
    sound = settled_sound left;
    few = let long = front_length in let size = c.now_is.few in omega (arith, long, size, few);
    few_aside = few_if (is_unclosed (store_opened left)) book few;
    back = back_opened;
    gated = back_opened;
  }

-- ---- empty devices

empty_front : IsFrontOf nothing [] 0
empty_front = record { few = omega arith; made = λ some. absurd (omega (arith, some)); upto = λ i there. absurd there; entries = refl }

abbrev empty_chosen : (all : List (List ℕ)) → Chosen all no_bytes [] 0
empty_chosen all = record {
  now = nothing;
  instead = nothing;
  wire = empty_wire;
  upto = 0;
  more = 0;
  now_is = empty_front;
  instead_is = empty_front;
  least = omega arith;
  longer = omega arith;
  now_asked = tt;
  instead_asked = tt;
}

none_aside : (s : StoreState) (es : List LogEntry) → es ≡ [] → still_aside s es ≡ []
none_aside s es is = by (is_unclosed s)
  where
    by : (t : Bool) → cond t es [] ≡ []
    by true = is
    by false = refl

pub empty_book : (all : List (List ℕ)) (place : ℕ) → HoldsWritten all (store_opened no_bytes) 0 0 place [] []
empty_book all place =
    let past : 0 - length (restores no_bytes).entries ≡ 0 = omega arith in
    let top : checkpoint_place (restores no_bytes).present ≡ 0 = ap (λ (k : Kept). checkpoint_place k.present) (restored_now all no_bytes [] 0 (omega arith) (empty_chosen all)) in
    subst (λ (es : List LogEntry). HoldsWritten all (store_opened no_bytes) 0 0 place [] es) (none_aside (store_opened no_bytes) [] refl)
    (subst (λ (n : ℕ). HoldsWritten all (store_opened no_bytes) 0 n place [] (still_aside (store_opened no_bytes) [])) top
    (subst (λ (n : ℕ). HoldsWritten all (store_opened no_bytes) n (checkpoint_place (restores no_bytes).present) place [] (still_aside (store_opened no_bytes) [])) past
    (opened_book all no_bytes [] 0 (omega arith) (empty_chosen all) place)))

-- ---- a crash

-- what the next life begins with
chosen : (all : List (List ℕ)) (left : Images) (book aside : List LogEntry) (count : ℕ) (kept other : Kept) → IsFrontOf kept book count → BringsBack count book aside other → Snapshot (IsOneOf all) kept → Snapshot (IsOneOf all) other
    → StoreNext left kept other → Chosen all left aside count
chosen all left book aside count kept other f b p o (inl w) = record {
  now = kept;
  instead = kept;
  wire = w;
  upto = count;
  more = count;
  now_is = kept_aside kept other count book aside f b;
  instead_is = kept_aside kept other count book aside f b;
  least = omega arith;
  longer = omega arith;
  now_asked = p;
  instead_asked = p;
}
chosen all left book aside count kept other f b p o (inr (inl w)) = record {
  now = kept;
  instead = other;
  wire = w;
  upto = count;
  more = b.more;
  now_is = kept_aside kept other count book aside f b;
  instead_is = b.other_is;
  least = omega arith;
  longer = b.longer;
  now_asked = p;
  instead_asked = o;
}
chosen all left book aside count kept other f b p o (inr (inr w)) = record {
  now = other;
  instead = other;
  wire = w;
  upto = b.more;
  more = b.more;
  now_is = b.other_is;
  instead_is = b.other_is;
  least = b.longer;
  longer = omega arith;
  now_asked = o;
  instead_asked = o;
}

module _ (all : List (List ℕ)) (s : StoreState) (past top place : ℕ) (book aside : List LogEntry) (h : HoldsWritten all s past top place book aside) where
  abbrev count : ℕ
  count = s.firm + past

  abbrev Brings : Kept → Type 0
  Brings other = BringsBack count book book other

  brings_same : h.aim.stake ≡ h.aim.kept → Brings h.aim.stake
  brings_same is = subst (λ (k : Kept). Brings k) (sym is) (brings_front count count book h.aim.kept (omega arith) h.kept)

  -- a group adds to what is kept
  brings_group : (h.aim.stake ≡ h.aim.kept) ⊎ (h.aim.stake ≡ with h.aim.kept s.adding) → Brings h.aim.stake
  brings_group (inl same) = brings_same same
  brings_group (inr more) =
      subst (λ (k : Kept). Brings k) (sym more)
      (brings_front count (count + length s.adding) book (with h.aim.kept s.adding) (omega arith) (front_added book count s.adding s.waiting h.rest h.aim.kept h.adds h.kept))

  -- a switch gives its tail, once it is written
  brings_switch : (written : Option Tail) → IfSome written (λ (t : Tail). IsTailOf s.firm s.restored past book h.aim.next t) → (h.aim.stake ≡ h.aim.kept) ⊎ (h.aim.stake ≡ aimed_at h.aim.kept h.aim.next written) → Brings h.aim.stake
  brings_switch None is (inl same) = brings_same same
  brings_switch None is (inr same) = brings_same same
  brings_switch (Some tail) is (inl same) = brings_same same
  brings_switch (Some tail) is (inr new) =
      let high = is.high in
      subst (λ (k : Kept). Brings k) (sym new)
      (brings_front count ((s.restored + tail.made) + past) book (switched h.aim.next tail.entries) (omega (arith, high)) is.front)

  -- over no torn gate
  brings_by : (e : Ending) (calls : List StoreCall) → MakesBy e calls h.written s.adding h.aim → MendsBy e s → is_unclosed s ≡ false → Brings h.aim.stake
  brings_by (Closes odd) calls m torn calm = both_ways (is_unclosed s) (Brings h.aim.stake) torn calm
  brings_by Repairs calls m torn calm = both_ways (is_unclosed s) (Brings h.aim.stake) torn calm
  brings_by (Adds end) calls m mends calm = brings_group m.stake_is
  brings_by (Switches end last) calls m mends calm = brings_switch h.written h.tail m.stake_is

  brings_in : (calls : List StoreCall) → s.running ≡ calls → Makes calls s.ending h.written s.adding h.aim → MendsIn calls s → is_unclosed s ≡ false → Brings h.aim.stake
  brings_in [] idle m mends calm =
      let parts = calm_parts s.torn (is_torn s.even) (is_torn s.odd) calm in
      brings_same (calm_stake s h.aim idle parts.1.0 parts.1.1 parts.0 h.own)
  brings_in (call ∷ left) is m mends calm = brings_by s.ending (call ∷ left) m mends calm

  -- the book of which a crash leaves a front
  abbrev whole : List LogEntry
  whole = written_book s book aside

  brings : BringsBack count book whole h.aim.stake
  brings = by (is_unclosed s) refl
    where
      by : (t : Bool) → is_unclosed s ≡ t → BringsBack count book (cond t aside book) h.aim.stake
      by true torn = h.back torn
      by false calm = brings_in s.running refl h.logs h.mends calm

  few_whole : length whole ≤ greatest
  few_whole = by (is_unclosed s)
    where
      by : (t : Bool) → length (cond t aside book) ≤ greatest
      by true = h.few_aside
      by false = h.few

  leaves_front : (left : Images) → Chosen all left whole count → LeavesFront all s past book aside left
  leaves_front left c = record {
    count = c.upto;
    checkpoint = subst (λ (k : Kept). Snapshot (IsOneOf all) k) (sym (restored_now all left whole count few_whole c)) c.now_asked;
    front = restored_front all left whole count few_whole c;
    firm = c.least;
    same = brings.same;
    shorter = restored_fits all left whole count few_whole c;
    holds = opened_book all left whole count few_whole c;
  }

  pub crash_leaves_front : (left : Images) → MayLeave s.devices left → LeavesFront all s past book aside left
  crash_leaves_front left may =
      leaves_front left (chosen all left book whole count h.aim.kept h.aim.stake h.kept brings h.snapshots.kept h.snapshots.stake (own_leaves s h.aim h.own left may))
