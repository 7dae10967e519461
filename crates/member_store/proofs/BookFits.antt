-- What a store that may switch writes next has a spelling. A crash may leave each of its devices as it was at the last sync, and as it reads.
use Rattle.std.proofs.Common.{◌≡◌, ℕ, zero, suc, ◌+◌, ◌^◌, ◌<◌, ◌≤◌, nat_lt, Bool, true, false, cond, List, [], ◌∷◌, ◌++◌, length, length-append, drop, map, Option, Some, None, IfSome, sym, ap, ◌∙◌, subst, arith}
use Rattle.std.proofs.lemmas.List.{length-drop}
use Rattle.std.specs.Int.{w32}
use Rattle.std.specs.List.{flat_map}
use Rattle.smart_base.specs.Lists.{Each}
use Rattle.smart_base.specs.Spelling.{behind}
use Rattle.disk_model.specs.Cells.{Cells, IsSound}
use Rattle.store_form.specs.Spelling.{IsEntry, IsGroup, payload}
use Rattle.vote_book.specs.Entries.{FitsEntry, entry_text}
use Rattle.vote_book.specs.declared.entry.LogEntry.{LogEntry}
use Rattle.store_laws.specs.States.{StoreState, greatest, is_torn, some, wants_tail, Close, Repair, of_group, of_asked, group_of, due_job}
use Rattle.store_laws.specs.Stands.{HasSpelling}
use Rattle.store_laws.specs.Runs.{CallFits}
use Rattle.store_laws.specs.Stops.{is_installed}
use Rattle.store_laws.specs.declared.job.Tail.{Tail}
use Rattle.store_laws.proofs.Given.{no_calls}
use Rattle.store_laws.proofs.Logged.{rest_is}
use Rattle.world_rules.specs.Crashes.{cells_left, images_left, wrong_images, wrong_on}
use Rattle.world_rules.specs.declared.crash.Image.{Image}
use Rattle.member_store.specs.Cuts.{HoldsWritten}
use Rattle.member_store.proofs.Groups.{group_fits}
use Rattle.member_store.proofs.Told.{all_none, on_none}
use Rattle.member_store.proofs.Whole.{left_image}

-- ---- the next job has a spelling

-- what waits up to an entry that ends a group: it is no longer than all that waits
record NoLonger (waits front : List (List ℕ)) : Type 0 where
  few : length front ≤ length waits
  short : length (flat_map (λ (e : List ℕ). behind w32 e) front) ≤ length (flat_map (λ (e : List ℕ). behind w32 e) waits)
  each : Each IsEntry waits → Each IsEntry front

no_longer_by : (ends : Bool) (entry : List ℕ) (entries front : List (List ℕ)) → NoLonger entries front → NoLonger (entry ∷ entries) (cond ends [] (entry ∷ front))
no_longer_by true entry entries front rest = record { few = omega arith; short = omega arith; each = λ each. tt }
no_longer_by false entry entries front rest =
    let less = length-append (behind w32 entry) (flat_map (λ (e : List ℕ). behind w32 e) front) in
    let all = length-append (behind w32 entry) (flat_map (λ (e : List ℕ). behind w32 e) entries) in
    record { few = omega (arith, rest.few); short = omega (arith, less, all, rest.short); each = λ each. (each.0, rest.each each.1) }

no_longer : (stops : List ℕ → Bool) (waits : List (List ℕ)) → NoLonger waits (group_of stops waits)
no_longer stops [] = record { few = omega arith; short = omega arith; each = λ each. each }
no_longer stops (entry ∷ entries) = no_longer_by (stops entry) entry entries (group_of stops entries) (no_longer stops entries)

-- so it is a group, if all that waits is one
front_of : (stops : List ℕ → Bool) (waits : List (List ℕ)) → IsGroup waits → IsGroup (group_of stops waits)
unfolding payload
front_of stops waits group =
    let front = no_longer stops waits in
    record { few = omega (arith, front.few, group.few); each = front.each group.each; small = omega (arith, front.short, group.small) }

group_spells : (entries : List (List ℕ)) → IsGroup entries → HasSpelling (of_group entries)
group_spells [] fits = tt
group_spells (entry ∷ entries) fits = fits

module _ (s : StoreState) (waits : IsGroup s.waiting) (short : IfSome s.asked IsEntry) where
  may_ask : (t : Bool) → IfSome (cond t s.asked None) IsEntry
  may_ask true = short
  may_ask false = tt

  first_asked : (o : Option (List ℕ)) → IfSome o IsEntry → HasSpelling (of_asked o (of_group (group_of is_installed s.waiting)))
  first_asked None fits = group_spells (group_of is_installed s.waiting) (front_of is_installed s.waiting waits)
  first_asked (Some snapshot) fits = fits

  choose : (even odd torn : Bool) → HasSpelling (cond even (Close false) (cond odd (Close true) (cond torn Repair (of_asked (cond (nat_lt s.generation greatest) s.asked None) (of_group (group_of is_installed s.waiting))))))
  choose true odd torn = tt
  choose false true torn = tt
  choose false false true = tt
  choose false false false = first_asked (cond (nat_lt s.generation greatest) s.asked None) (may_ask (nat_lt s.generation greatest))

  due_spells : HasSpelling (due_job is_installed s)
  due_spells = choose (is_torn s.even) (is_torn s.odd) s.torn

-- what holds of each entry, holds of each behind the first ones
each_behind : (P : LogEntry → Type 0) (count : ℕ) (es : List LogEntry) → Each P es → Each P (drop count es)
each_behind P zero es each = each
each_behind P (suc n) [] each = tt
each_behind P (suc n) (e ∷ es) each = each_behind P n es each.1

pub call_spells : (all : List (List ℕ)) (s : StoreState) (past top place : ℕ) (book aside entries : List LogEntry) (tail : Tail) → HoldsWritten all s past top place book aside → Each FitsEntry book → length book < 2 ^ 28 → IfSome s.asked IsEntry
    → (wants_tail s ≡ true → tail.entries ≡ map entry_text entries) → Each FitsEntry entries → length entries < 2 ^ 28 → CallFits is_installed tail s
call_spells all s past top place book aside entries tail h fits few short is tail_fits tail_few = (due, λ wants. subst IsGroup (sym (is wants)) (group_fits entries tail_fits tail_few))
  where
    due : some s.running ≡ false → HasSpelling (due_job is_installed s)
    due none =
        let rest = rest_is h.written s h.aim (no_calls s.running none) h.logs in
        let waits : s.waiting ≡ map entry_text (drop (s.firm + past) book) = ap (λ (l : List (List ℕ)). l ++ s.waiting) (sym rest.1) ∙ h.rest in
        let less = length-drop (s.firm + past) book in
        due_spells s (subst IsGroup (sym waits) (group_fits (drop (s.firm + past) book) (each_behind FitsEntry (s.firm + past) book fits) (omega (arith, few, less)))) short

-- ---- what a crash may leave

module _ (all : List (List ℕ)) (s : StoreState) (past top place : ℕ) (book aside : List LogEntry) (h : HoldsWritten all s past top place book aside) (image : Image) where
  none_of : (device : ℕ) (cells : Cells) → IsSound cells → wrong_on device cells (cells_left image cells) ≡ None
  none_of device cells sound = on_none device cells (cells_left image cells) (left_image image cells sound)

  pub nothing_is_wrong : wrong_images s (images_left image [] s) ≡ None
  unfolding wrong_images
  nothing_is_wrong =
      all_none (wrong_on 0 s.devices.even_log (cells_left image s.devices.even_log)) (wrong_on 1 s.devices.odd_log (cells_left image s.devices.odd_log))
      (wrong_on 2 s.devices.even_slot (cells_left image s.devices.even_slot)) (wrong_on 3 s.devices.odd_slot (cells_left image s.devices.odd_slot))
      (none_of 0 s.devices.even_log (h.sound.logs false))
      (none_of 1 s.devices.odd_log (h.sound.logs true))
      (none_of 2 s.devices.even_slot (h.sound.slots false))
      (none_of 3 s.devices.odd_slot (h.sound.slots true))
