-- A store that is being opened, as its devices are read.
use Rattle.std.proofs.Common.{◌≡◌, inl, inr, ℕ, ◌^◌, ◌<◌, ◌≤◌, min, Bool, true, false, cond, nat_lt, List, [], ◌∷◌, ◌++◌, drop, Option, Some, None, IfSome, refl, sym, ◌∙◌, ap, subst, arith, append_assoc}
use Rattle.std.proofs.lemmas.List.{append-nil}
use Rattle.faults.specs.Counts.{Rose}
use Rattle.disk_model.specs.Cells.{Cells, settled}
use Rattle.batch_log.specs.Log.{restored}
use Rattle.store_form.specs.declared.checkpoint.Checkpoint.{Checkpoint}
use Rattle.checkpoint_store.specs.Slots.{slot_of, newer, newest}
use Rattle.log_stream.specs.Windows.{OnlyRead}
use Rattle.log_stream.specs.Heads.{HeadOf, with_head}
use Rattle.log_stream.specs.Stream.{Reads, HasRead, to_come}
use Rattle.log_stream.specs.declared.reader.LogReader.{LogReader}
use Rattle.log_stream.proofs.Pieces.{not_read, read_on}
use Rattle.log_stream.proofs.Places.{has_read}
use Rattle.store_laws.specs.Restored.{Images, log_image, side_of, present_in, entries_of, restores, slot_gate}
use Rattle.store_laws.specs.States.{greatest}
use Rattle.store_laws.specs.Stands.{IsRead}
use Rattle.store_laws.specs.declared.job.Kept.{Kept}
use Rattle.store_laws.specs.declared.job.Device.TheVariants.{Log}
use Rattle.durable_store.specs.Disks.{disk_at, OthersSame, contents, AreSettled, AreSame, NoneFell, TimeWent, DiskRose}
use Rattle.durable_store.specs.Streams.{Opens, entries_to_come, Gives}
use Rattle.durable_store.specs.declared.disks.Disks.{Disks}
use Rattle.durable_store.specs.declared.opening.Opening.{Opening}

-- ---- the newest checkpoint, by the heads of both slots

module _ (even odd : List ℕ) where
  newest_by : (x y : Option Checkpoint) → slot_of false even ≡ x → slot_of true odd ≡ y → newest even odd ≡ newer x y
  newest_by x y one other = λ i. newer (one i) (other i)

  pub no_newest : HeadOf false even None → HeadOf true odd None → None ≡ newest even odd
  no_newest one other = sym (newest_by None None one other)

  pub odd_alone : (y : ℕ × ℕ) → HeadOf false even None → HeadOf true odd (Some y) → Some (with_head odd y) ≡ newest even odd
  odd_alone y one other = sym (newest_by None (Some (with_head odd y)) one other.0)

  pub even_alone : (x : ℕ × ℕ) → HeadOf false even (Some x) → HeadOf true odd None → Some (with_head even x) ≡ newest even odd
  even_alone x one other = sym (newest_by (Some (with_head even x)) None one.0 other)

  both : (x y : ℕ × ℕ) (less : Bool) → HeadOf false even (Some x) → HeadOf true odd (Some y) → nat_lt x.0 y.0 ≡ less → cond less (Some (with_head odd y)) (Some (with_head even x)) ≡ newest even odd
  both x y less one other is =
      sym (newest_by (Some (with_head even x)) (Some (with_head odd y)) one.0 other.0 ∙ ap (λ (t : Bool). cond t (Some (with_head odd y)) (Some (with_head even x))) is)

  pub odd_newer : (x y : ℕ × ℕ) → HeadOf false even (Some x) → HeadOf true odd (Some y) → nat_lt x.0 y.0 ≡ true → Some (with_head odd y) ≡ newest even odd
  odd_newer x y one other is = both x y true one other is

  pub even_newer : (x y : ℕ × ℕ) → HeadOf false even (Some x) → HeadOf true odd (Some y) → nat_lt x.0 y.0 ≡ false → Some (with_head even x) ≡ newest even odd
  even_newer x y one other is = both x y false one other is

-- ---- devices that were read

module _ {D : Type 0} (cells : D → Cells) where
  pub log_of : (odd : Bool) (d : Disks D) → (cells (disk_at (Log odd) d)).now ≡ log_image odd (contents cells d)
  log_of false d = refl
  log_of true d = refl

  pub log_same : (odd : Bool) (old new : Disks D) → OthersSame (Log odd) old new → cells (disk_at (Log odd) new) ≡ cells (disk_at (Log odd) old) → AreSame cells old new
  log_same false old new others is = record { even_log = is; odd_log = ap cells others.0; even_slot = ap cells others.1.0; odd_slot = ap cells others.1.1 }
  log_same true old new others is = record { even_log = ap cells others.0; odd_log = is; even_slot = ap cells others.1.0; odd_slot = ap cells others.1.1 }

  pub all_same : (d : Disks D) → AreSame cells d d
  all_same d = record { even_log = refl; odd_log = refl; even_slot = refl; odd_slot = refl }

  pub same_on : (a b c : Disks D) → AreSame cells a b → AreSame cells b c → AreSame cells a c
  same_on a b c one two = record { even_log = two.even_log ∙ one.even_log; odd_log = two.odd_log ∙ one.odd_log; even_slot = two.even_slot ∙ one.even_slot; odd_slot = two.odd_slot ∙ one.odd_slot }

  pub same_contents : (old new : Disks D) → AreSame cells old new → contents cells new ≡ contents cells old
  same_contents old new same = λ i. record { even_log = (same.even_log i).now; odd_log = (same.odd_log i).now; even_slot = (same.even_slot i).now; odd_slot = (same.odd_slot i).now }

  settled_too : (old new : D) → cells old ≡ settled (cells old).now → cells new ≡ cells old → cells new ≡ settled (cells new).now
  settled_too old new sure same = same ∙ sure ∙ ap (λ (s : Cells). settled s.now) (sym same)

  pub settled_on : (old new : Disks D) → AreSettled cells old → AreSame cells old new → AreSettled cells new
  settled_on old new sure same = record {
    even_log = settled_too old.even_log new.even_log sure.even_log same.even_log;
    odd_log = settled_too old.odd_log new.odd_log sure.odd_log same.odd_log;
    even_slot = settled_too old.even_slot new.even_slot sure.even_slot same.even_slot;
    odd_slot = settled_too old.odd_slot new.odd_slot sure.odd_slot same.odd_slot;
  }

  module _ (moment : D → ℕ) (left_since : D → ℕ → List ℕ → Type 0) where
    pub time_on : (a b c : Disks D) → AreSame cells a b → AreSame cells b c → TimeWent moment left_since cells a b → TimeWent moment left_since cells b c → TimeWent moment left_since cells a c
    time_on a b c one two before after = record {
      even_log = (read_on cells moment left_since a.even_log b.even_log c.even_log (record { same = one.even_log; time = before.even_log }) (record { same = two.even_log; time = after.even_log })).time;
      odd_log = (read_on cells moment left_since a.odd_log b.odd_log c.odd_log (record { same = one.odd_log; time = before.odd_log }) (record { same = two.odd_log; time = after.odd_log })).time;
      even_slot = (read_on cells moment left_since a.even_slot b.even_slot c.even_slot (record { same = one.even_slot; time = before.even_slot }) (record { same = two.even_slot; time = after.even_slot })).time;
      odd_slot = (read_on cells moment left_since a.odd_slot b.odd_slot c.odd_slot (record { same = one.odd_slot; time = before.odd_slot }) (record { same = two.odd_slot; time = after.odd_slot })).time;
    }

    -- both slots are read
    pub slots_same : (old new : Disks D) → new.even_log ≡ old.even_log → new.odd_log ≡ old.odd_log → OnlyRead cells moment left_since old.even_slot new.even_slot → OnlyRead cells moment left_since old.odd_slot new.odd_slot → AreSame cells old new
    slots_same old new even_log odd_log even odd = record { even_log = ap cells even_log; odd_log = ap cells odd_log; even_slot = even.same; odd_slot = odd.same }

    pub slots_time : (old new : Disks D) → new.even_log ≡ old.even_log → new.odd_log ≡ old.odd_log → OnlyRead cells moment left_since old.even_slot new.even_slot → OnlyRead cells moment left_since old.odd_slot new.odd_slot → TimeWent moment left_since cells old new
    slots_time old new even_log odd_log even odd = record {
      even_log = (subst (λ (d : D). OnlyRead cells moment left_since old.even_log d) (sym even_log) (not_read cells moment left_since old.even_log)).time;
      odd_log = (subst (λ (d : D). OnlyRead cells moment left_since old.odd_log d) (sym odd_log) (not_read cells moment left_since old.odd_log)).time;
      even_slot = even.time;
      odd_slot = odd.time;
    }

-- the failure of one of the devices, before others are read
pub rose_then : {D : Type 0} (counts : D → ℕ) (a b c : Disks D) → NoneFell counts b c → DiskRose counts a b → DiskRose counts a c
rose_then {D = D} counts a b c later = by
  where
    up : (x y z : ℕ) → y ≤ z → Rose x y → Rose x z
    up x y z le rose = omega (arith, le, rose)

    by : DiskRose counts a b → DiskRose counts a c
    by (inl r) = inl (up (counts a.even_log) (counts b.even_log) (counts c.even_log) later.even_log r)
    by (inr (inl r)) = inr (inl (up (counts a.odd_log) (counts b.odd_log) (counts c.odd_log) later.odd_log r))
    by (inr (inr (inl r))) = inr (inr (inl (up (counts a.even_slot) (counts b.even_slot) (counts c.even_slot) later.even_slot r)))
    by (inr (inr (inr r))) = inr (inr (inr (up (counts a.odd_slot) (counts b.odd_slot) (counts c.odd_slot) later.odd_slot r)))

-- the failure of one of the devices, after others were read
pub rose_since : {D : Type 0} (counts : D → ℕ) (a b c : Disks D) → NoneFell counts a b → DiskRose counts b c → DiskRose counts a c
rose_since {D = D} counts a b c later = by
  where
    down : (x y z : ℕ) → x ≤ y → Rose y z → Rose x z
    down x y z le rose = omega (arith, le, rose)

    by : DiskRose counts b c → DiskRose counts a c
    by (inl r) = inl (down (counts a.even_log) (counts b.even_log) (counts c.even_log) later.even_log r)
    by (inr (inl r)) = inr (inl (down (counts a.odd_log) (counts b.odd_log) (counts c.odd_log) later.odd_log r))
    by (inr (inr (inl r))) = inr (inr (inl (down (counts a.even_slot) (counts b.even_slot) (counts c.even_slot) later.even_slot r)))
    by (inr (inr (inr r))) = inr (inr (inr (down (counts a.odd_slot) (counts b.odd_slot) (counts c.odd_slot) later.odd_slot r)))

-- ---- what is known of an opening

module _ {D : Type 0} (cells : D → Cells) where
  pub opens_on : (old new : Opening D) → Opens cells old → AreSame cells old.disks new.disks → new.even ≡ old.even → new.odd ≡ old.odd → new.present ≡ old.present → new.is_odd ≡ old.is_odd
      → Reads (cells (disk_at (Log old.is_odd) new.disks)).now new.reader → Opens cells new
  opens_on old new o same even odd present side reads =
      let are = sym (same_contents cells old.disks new.disks same) in
      record {
        settled = settled_on cells old.disks new.disks o.settled same;
        even = even ∙ o.even ∙ ap (λ (x : Images). slot_gate false x.even_slot) are;
        odd = odd ∙ o.odd ∙ ap (λ (x : Images). slot_gate true x.odd_slot) are;
        present = present ∙ o.present ∙ ap present_in are;
        side = side ∙ o.side ∙ ap (λ (x : Images). side_of (present_in x)) are;
        reads = subst (λ (b : Bool). Reads (log_image b (contents cells new.disks)) new.reader) (sym side) (subst (λ (bytes : List ℕ). Reads bytes new.reader) (log_of cells old.is_odd new.disks) reads);
      }

  -- the entries that are still to come are those that the reader of the log has not given
  pub to_come_is : (o : Opening D) → Opens cells o → entries_to_come cells o ≡ to_come (cells (disk_at (Log o.is_odd) o.disks)).now o.reader
  to_come_is o opens =
      ap (λ (odd : Bool). drop o.reader.restored (entries_of (restored (log_image odd (contents cells o.disks))))) (sym opens.side)
      ∙ ap (λ (bytes : List ℕ). to_come bytes o.reader) (sym (log_of cells o.is_odd o.disks))

  pub comes_again : (old new : Opening D) → AreSame cells old.disks new.disks → new.reader.restored ≡ old.reader.restored → entries_to_come cells new ≡ entries_to_come cells old
  comes_again old new same still = λ i. drop (still i) (restores (same_contents cells old.disks new.disks same i)).entries

  -- ---- the end

  pub opening_read : (o : Opening D) → Opens cells o → o.reader.ended ≡ true → HasRead (log_image (side_of (present_in (contents cells o.disks))) (contents cells o.disks)) o.reader
  opening_read o opens ended =
      subst (λ (odd : Bool). HasRead (log_image odd (contents cells o.disks)) o.reader) opens.side (has_read (log_image o.is_odd (contents cells o.disks)) o.reader opens.reads (o.reader.over ended) ended)

pub is_read : (bytes : List ℕ) (reader : LogReader) → HasRead bytes reader → IsRead bytes
is_read bytes reader h = record { rest = drop reader.end bytes; are = h.are; fit = h.fit; nothing = h.nothing }

pub small_count : (reader : LogReader) → reader.restored < 2 ^ 63
small_count reader = omega (arith, reader.counted, reader.room, reader.inside, reader.small)

pub few : (n count : ℕ) → n ≡ count → n < 2 ^ 63 → n ≡ min count greatest
few n count is small = omega (arith, is, small)

-- ---- the entries that come

pub one_more : (first given more left : List (List ℕ)) (entry : List ℕ) → first ≡ given ++ more → more ≡ entry ∷ left → first ≡ (given ++ entry ∷ []) ++ left
one_more first given more left entry are is = are ∙ ap (λ (l : List (List ℕ)). given ++ l) is ∙ sym (append_assoc given (entry ∷ []) left)

pub no_more : (first given more : List (List ℕ)) → first ≡ given ++ more → more ≡ [] → given ≡ first
no_more first given more are none = sym (are ∙ ap (λ (l : List (List ℕ)). given ++ l) none ∙ append-nil given)

module _ {D : Type 0} (cells : D → Cells) where
  pub gives_all : (entries : List (List ℕ)) (first last : Opening D) → Gives cells entries first last → entries_to_come cells first ≡ entries ++ entries_to_come cells last
  gives_all [] first last is = sym is
  gives_all (entry ∷ more) first last g = g.1.0 ∙ ap (λ (l : List (List ℕ)). entry ∷ l) (gives_all more g.0 last g.1.1)

-- the next entry of the log is the next of the opening
pub next_entry : {told : Type 0} (o : Option (List ℕ)) (a b c d : List (List ℕ)) → (told → a ≡ c) → (told → d ≡ b) → IfSome o (λ entry. told → c ≡ entry ∷ d) → IfSome o (λ entry. told → a ≡ entry ∷ b)
next_entry None a b c d one other is = tt
next_entry (Some entry) a b c d one other is = λ t. one t ∙ is t ∙ ap (λ (l : List (List ℕ)). entry ∷ l) (other t)

abbrev kept_with : Option Checkpoint → List (List ℕ) → Kept
kept_with present entries = record { present = present; entries = entries }

pub kept_is : (images : Images) (present : Option Checkpoint) (entries : List (List ℕ)) → present ≡ present_in images → entries ≡ (restores images).entries → kept_with present entries ≡ restores images
kept_is images present entries one other = λ i. record { present = one i; entries = other i }
