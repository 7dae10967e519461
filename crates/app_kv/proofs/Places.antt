-- Where an entry stands among entries that ascend by key.
use Rattle.std.proofs.Common.{◌≡◌, ℕ, zero, suc, ◌<◌, ◌≤◌, Bool, true, false, get_or, slice_set, List, [], ◌∷◌, length, if◌then◌else◌, Some, None, refl, sym, ap, subst, ◌∙◌, arith}
use Rattle.std.specs.List.{insert, remove}
use Rattle.std.specs.List.Sorted.{IsPartitionedBy, IsPartitionPoint}
use Rattle.std.specs.Ordering.{is_eq, is_gt, match_ordering, ordering_reverse}
use Rattle.std.specs.declared.cmp.Ordering.{Ordering}
use Rattle.std.specs.declared.cmp.Ordering.TheVariants.{Less, Equal, Greater}
use Rattle.std.specs.Str.{bytes_eq}
use Rattle.std.proofs.lemmas.Cmp.{nat_list_cmp_total}
use Rattle.std.proofs.lemmas.Slice.Eq.{bytes_eq-Decides}
use Rattle.smart_base.specs.Lists.{Each}
use Rattle.app_kv.specs.Stores.{byte_order, above, ascends, value_of, with_entry, without, entries_before, Found, Missing}
use Rattle.app_kv.specs.Entries.{alike_by, less_back, above_parts, ascends_above, none_below}
use Rattle.app_kv.specs.declared.store.Entry.{Entry}

-- ---- the place that a binary search finds

is_greater : (o : Ordering) → is_gt o ≡ true → o ≡ Greater
is_greater Less e = absurd cc
is_greater Equal e = absurd cc
is_greater Greater e = refl

least_below : (least : List ℕ) (es : List Entry) → above least es ≡ true → (k : ℕ) (d : Entry) → k < length es
    → byte_order least (get_or es k d).key ≡ Less
least_below least [] h k d within = absurd (omega (arith, within))
least_below least (e ∷ es) h zero d within = (above_parts least e es h).0
least_below least (e ∷ es) h (suc k) d within =
    let p = above_parts least e es h in
    nat_list_cmp_total.trans least e.key (get_or es k d).key p.0 (least_below e.key es p.1 k d (omega (arith, within)))

greater_yet : (key low high : List ℕ) → byte_order low high ≡ Less → is_gt (byte_order key high) ≡ true → is_gt (byte_order key low) ≡ true
greater_yet key low high less greater =
    let back = less_back key high (is_greater (byte_order key high) greater) in
    let lower = nat_list_cmp_total.trans low high key less back in
    ap is_gt (nat_list_cmp_total.antisymm key low ∙ ap ordering_reverse lower)

-- the keys before one stand before those that are not before it
pub parted : (s : List Entry) (key : List ℕ) → ascends s ≡ true → IsPartitionedBy (λ e. is_gt (byte_order key e.key)) s
parted [] key h i j d le within greater = absurd (omega (arith, within))
parted (e ∷ es) key h zero zero d le within greater = greater
parted (e ∷ es) key h zero (suc j) d le within greater =
    greater_yet key e.key (get_or es j d).key (least_below e.key es h j d (omega (arith, within))) greater
parted (e ∷ es) key h (suc i) zero d le within greater = absurd (omega (arith, le))
parted (e ∷ es) key h (suc i) (suc j) d le within greater =
    parted es key (ascends_above e.key es h) i j d (omega (arith, le)) (omega (arith, within)) greater

-- a place with the keys before one on its left and all others on its right is the one sought
pub place_is : (s : List Entry) (key : List ℕ) (i : ℕ) → i ≤ length s
    → IsPartitionPoint (λ e. is_gt (byte_order key e.key) ≡ true) (λ e. is_gt (byte_order key e.key) ≡ false) s i → i ≡ entries_before key s
place_is [] key i within h = omega (arith, within)
place_is (e ∷ es) key zero within h = rw (h.1 0 e (omega arith) (omega arith)) refl
place_is (e ∷ es) key (suc i) within h =
    rw (h.0 0 e (omega arith) (omega arith))
    (ap suc (place_is es key i (omega (arith, within)) (λ k d low high. h.0 (suc k) d (omega arith) (omega (arith, high)), λ k d low high. h.1 (suc k) d (omega (arith, low)) (omega (arith, high)))))

-- ---- the entry at the place

same_is : (text other : List ℕ) → bytes_eq text other ≡ true → text ≡ other
same_is text other e = (bytes_eq-Decides text other).0 e

there-step : (e : Entry) (es : List Entry) (key : List ℕ) (k : ℕ) (d : Entry) (o : Ordering) → byte_order key e.key ≡ o
    → (k < length es → bytes_eq key (get_or es k d).key ≡ true → value_of key es ≡ Some (get_or es k d).value)
    → (if is_gt o then suc k else 0) < length (e ∷ es)
    → bytes_eq key (get_or (e ∷ es) (if is_gt o then suc k else 0) d).key ≡ true
    → value_of key (e ∷ es) ≡ Some (get_or (e ∷ es) (if is_gt o then suc k else 0) d).value
there-step e es key k d Less is more within same = rw same refl
there-step e es key k d Equal is more within same = rw same refl
there-step e es key k d Greater is more within same = rw (alike_by key e.key Greater is) (more (omega (arith, within)) same)

there : (s : List Entry) (key : List ℕ) (d : Entry) → entries_before key s < length s
    → bytes_eq key (get_or s (entries_before key s) d).key ≡ true → value_of key s ≡ Some (get_or s (entries_before key s) d).value
there [] key d within same = absurd (omega (arith, within))
there (e ∷ es) key d within same =
    there-step e es key (entries_before key es) d (byte_order key e.key) refl (there es key d) within same

past-step : (e : Entry) (es : List Entry) (key : List ℕ) (k : ℕ) (o : Ordering) → byte_order key e.key ≡ o
    → (k ≡ length es → value_of key es ≡ None) → (if is_gt o then suc k else 0) ≡ length (e ∷ es) → value_of key (e ∷ es) ≡ None
past-step e es key k Less is more end = absurd (omega (arith, end))
past-step e es key k Equal is more end = absurd (omega (arith, end))
past-step e es key k Greater is more end = rw (alike_by key e.key Greater is) (more (omega (arith, end)))

-- where all keys stand before one, it has no entry
past : (s : List Entry) (key : List ℕ) → entries_before key s ≡ length s → value_of key s ≡ None
past [] key end = refl
past (e ∷ es) key end = past-step e es key (entries_before key es) (byte_order key e.key) refl (past es key) end

other-step : (e : Entry) (es : List Entry) (key : List ℕ) (k : ℕ) (d : Entry) (o : Ordering) → above e.key es ≡ true → byte_order key e.key ≡ o
    → (bytes_eq key (get_or es k d).key ≡ false → k < length es → value_of key es ≡ None)
    → bytes_eq key (get_or (e ∷ es) (if is_gt o then suc k else 0) d).key ≡ false
    → (if is_gt o then suc k else 0) < length (e ∷ es) → value_of key (e ∷ es) ≡ None
other-step e es key k d Less h is more other within = rw other (none_below key e.key es is h)
other-step e es key k d Equal h is more other within =
    let both : true ≡ false = sym (alike_by key e.key Equal is) ∙ other in
    absurd cc
other-step e es key k d Greater h is more other within = rw (alike_by key e.key Greater is) (more other (omega (arith, within)))

-- where the entry at the place is another's, a key has none
not_there : (s : List Entry) (key : List ℕ) (d : Entry) → ascends s ≡ true → bytes_eq key (get_or s (entries_before key s) d).key ≡ false
    → entries_before key s < length s → value_of key s ≡ None
not_there [] key d h other within = refl
not_there (e ∷ es) key d h other within =
    other-step e es key (entries_before key es) d (byte_order key e.key) h refl (not_there es key d (ascends_above e.key es h)) other within

-- ---- what the search finds

module _ (s : List Entry) (key : List ℕ) (at : ℕ) (place : at ≡ entries_before key s) where
  pub missing_past : at ≡ length s → Missing s key at
  missing_past end = record {
    place = place;
    within = omega (arith, end);
    none = past s key (sym place ∙ end);
  }

  pub missing_other : (d : Entry) → ascends s ≡ true → at < length s → bytes_eq key (get_or s at d).key ≡ false → Missing s key at
  missing_other d h within other = record {
    place = place;
    within = omega (arith, within);
    none = not_there s key d h (subst (λ (k : ℕ). bytes_eq key (get_or s k d).key ≡ false) place other) (subst (λ (k : ℕ). k < length s) place within);
  }

module _ (s : List Entry) (key : List ℕ) (at : ℕ) (f : Found s key at) where
  there_within : entries_before key s < length s
  there_within = subst (λ (k : ℕ). k < length s) f.place f.within

  there_same : (d : Entry) → bytes_eq key (get_or s (entries_before key s) d).key ≡ true
  there_same d = subst (λ (k : ℕ). bytes_eq key (get_or s k d).key ≡ true) f.place (f.same d)

  -- the value of the entry that was found is the key's
  pub found_value : (d : Entry) → value_of key s ≡ Some (get_or s at d).value
  found_value d = rw f.place (there s key d there_within (there_same d))

-- ---- entries put and taken out

abbrev pub made : List ℕ → List ℕ → Entry
made key value = record { key = key; value = value }

put-step : (e : Entry) (es : List Entry) (key value : List ℕ) (k : ℕ) (d : Entry) (o : Ordering) → byte_order key e.key ≡ o
    → (k < length es → bytes_eq key (get_or es k d).key ≡ true → slice_set es k (made key value) ≡ with_entry (made key value) es)
    → (if is_gt o then suc k else 0) < length (e ∷ es)
    → bytes_eq key (get_or (e ∷ es) (if is_gt o then suc k else 0) d).key ≡ true
    → slice_set (e ∷ es) (if is_gt o then suc k else 0) (made key value)
    ≡ match_ordering o (made key value ∷ e ∷ es) (made key value ∷ es) (e ∷ with_entry (made key value) es)
put-step e es key value k d Less is more within same =
    let both : false ≡ true = sym (alike_by key e.key Less is) ∙ same in
    absurd cc
put-step e es key value k d Equal is more within same = refl
put-step e es key value k d Greater is more within same = ap (λ (es : List Entry). e ∷ es) (more (omega (arith, within)) same)

put : (s : List Entry) (key value : List ℕ) (d : Entry) → entries_before key s < length s
    → bytes_eq key (get_or s (entries_before key s) d).key ≡ true
    → slice_set s (entries_before key s) (made key value) ≡ with_entry (made key value) s
put [] key value d within same = absurd (omega (arith, within))
put (e ∷ es) key value d within same =
    put-step e es key value (entries_before key es) d (byte_order key e.key) refl (put es key value d) within same

-- a key's new value comes into the entry that was found
pub found_put : (s : List Entry) (key value : List ℕ) (at : ℕ) (d : Entry) → Found s key at
    → slice_set s at (made (get_or s at d).key value) ≡ with_entry (made key value) s
found_put s key value at d f =
    ap (λ (text : List ℕ). slice_set s at (made text value)) (sym (same_is key (get_or s at d).key (f.same d)))
    ∙ rw f.place (put s key value d (there_within s key at f) (there_same s key at f d))

new-step : (e : Entry) (es : List Entry) (new : Entry) (k : ℕ) (o : Ordering) → byte_order new.key e.key ≡ o
    → (value_of new.key es ≡ None → insert es k new ≡ with_entry new es)
    → (if is_eq o then Some e.value else value_of new.key es) ≡ None
    → insert (e ∷ es) (if is_gt o then suc k else 0) new ≡ match_ordering o (new ∷ e ∷ es) (new ∷ es) (e ∷ with_entry new es)
new-step e es new k Less is more none = refl
new-step e es new k Equal is more none = absurd cc
new-step e es new k Greater is more none = ap (λ (es : List Entry). e ∷ es) (more none)

new_at : (s : List Entry) (new : Entry) → value_of new.key s ≡ None → insert s (entries_before new.key s) new ≡ with_entry new s
new_at [] new none = refl
new_at (e ∷ es) new none =
    new-step e es new (entries_before new.key es) (byte_order new.key e.key) refl (new_at es new)
    (subst (λ (same : Bool). (if same then Some e.value else value_of new.key es) ≡ None) (alike_by new.key e.key _ refl) none)

-- a key's first entry comes where it belongs
pub missing_put : (s : List Entry) (new : Entry) (at : ℕ) → Missing s new.key at → insert s at new ≡ with_entry new s
missing_put s new at m = rw m.place (new_at s new m.none)

out-step : (e : Entry) (es : List Entry) (key : List ℕ) (k : ℕ) (d : Entry) (o : Ordering) → byte_order key e.key ≡ o
    → (k < length es → bytes_eq key (get_or es k d).key ≡ true → remove es k ≡ without key es)
    → (if is_gt o then suc k else 0) < length (e ∷ es)
    → bytes_eq key (get_or (e ∷ es) (if is_gt o then suc k else 0) d).key ≡ true
    → remove (e ∷ es) (if is_gt o then suc k else 0) ≡ without key (e ∷ es)
out-step e es key k d Less is more within same = rw same refl
out-step e es key k d Equal is more within same = rw same refl
out-step e es key k d Greater is more within same =
    rw (alike_by key e.key Greater is) (ap (λ (es : List Entry). e ∷ es) (more (omega (arith, within)) same))

out : (s : List Entry) (key : List ℕ) (d : Entry) → entries_before key s < length s
    → bytes_eq key (get_or s (entries_before key s) d).key ≡ true → remove s (entries_before key s) ≡ without key s
out [] key d within same = absurd (omega (arith, within))
out (e ∷ es) key d within same =
    out-step e es key (entries_before key es) d (byte_order key e.key) refl (out es key d) within same

-- the entry that was found leaves
pub found_out : (s : List Entry) (key : List ℕ) (at : ℕ) (d : Entry) → Found s key at → remove s at ≡ without key s
found_out s key at d f = rw f.place (out s key d (there_within s key at f) (there_same s key at f d))

none-step : (e : Entry) (es : List Entry) (key : List ℕ) (same : Bool) → (value_of key es ≡ None → without key es ≡ es)
    → (if same then Some e.value else value_of key es) ≡ None → (if same then es else e ∷ without key es) ≡ e ∷ es
none-step e es key true more none = absurd cc
none-step e es key false more none = ap (λ (es : List Entry). e ∷ es) (more none)

-- where a key has no entry none leaves
pub none_out : (s : List Entry) (key : List ℕ) → value_of key s ≡ None → without key s ≡ s
none_out [] key none = refl
none_out (e ∷ es) key none = none-step e es key (bytes_eq key e.key) (none_out es key) none

-- what holds of each holds of one
pub each_at : {A : Type 0} (P : A → Type 0) (xs : List A) → Each P xs → (k : ℕ) (d : A) → k < length xs → P (get_or xs k d)
each_at P [] h k d within = absurd (omega (arith, within))
each_at P (x ∷ xs) h zero d within = h.0
each_at P (x ∷ xs) h (suc k) d within = each_at P xs h.1 k d (omega (arith, within))
