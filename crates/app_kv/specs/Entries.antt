-- Laws of entries that ascend by key.
use Rattle.std.proofs.Common.{◌≡◌, ℕ, suc, ◌<◌, ◌≤◌, Bool, true, false, List, [], ◌∷◌, length, if◌then◌else◌, Some, None, refl, sym, ap, subst, ◌∙◌, arith}
use Rattle.std.specs.Ordering.{is_lt, is_eq, match_ordering, ordering_reverse}
use Rattle.std.specs.declared.cmp.Ordering.{Ordering}
use Rattle.std.specs.declared.cmp.Ordering.TheVariants.{Less, Equal, Greater}
use Rattle.std.specs.Option.{is_some}
use Rattle.std.specs.Str.{bytes_eq}
use Rattle.std.proofs.lemmas.Cmp.{nat_list_cmp_total}
use Rattle.std.proofs.lemmas.Map.Lookups.{exact_bytes}
use Rattle.std.proofs.lemmas.Map.Text.{is_eq-slice_cmp}
use Rattle.smart_base.specs.FieldLaws.{and_true}
use Rattle.smart_base.specs.Lists.{Each}
use Rattle.app_kv.specs.Stores.{byte_order, above, ascends, IsEntry, IsStore, value_of, with_entry, without}
use Rattle.app_kv.specs.declared.store.Entry.{Entry}

-- ---- the order

-- whether texts are the same shows in their order
pub alike_by : (text other : List ℕ) (o : Ordering) → byte_order text other ≡ o → bytes_eq text other ≡ is_eq o
alike_by text other o e = sym (is_eq-slice_cmp text other) ∙ ap is_eq e

pub is_less : (o : Ordering) → is_lt o ≡ true → o ≡ Less
is_less Less e = refl
is_less Equal e = absurd cc
is_less Greater e = absurd cc

pub less_back : (text other : List ℕ) → byte_order text other ≡ Greater → byte_order other text ≡ Less
less_back text other e = nat_list_cmp_total.antisymm other text ∙ ap ordering_reverse e

pub above_parts : (key : List ℕ) (e : Entry) (es : List Entry) → above key (e ∷ es) ≡ true → (byte_order key e.key ≡ Less) × (above e.key es ≡ true)
above_parts key e es h =
    let t = and_true (is_lt (byte_order key e.key)) (above e.key es) h in
    (is_less (byte_order key e.key) t.0, t.1)

pub above_from : (key : List ℕ) (e : Entry) (es : List Entry) → byte_order key e.key ≡ Less → above e.key es ≡ true → above key (e ∷ es) ≡ true
above_from key e es less more = rw (less, more) refl

pub ascends_above : (key : List ℕ) (es : List Entry) → above key es ≡ true → ascends es ≡ true
ascends_above key [] h = refl
ascends_above key (e ∷ es) h = (above_parts key e es h).1

pub above_lower : (low key : List ℕ) (es : List Entry) → byte_order low key ≡ Less → above key es ≡ true → above low es ≡ true
above_lower low key [] less h = refl
above_lower low key (e ∷ es) less h =
    let p = above_parts key e es h in
    above_from low e es (nat_list_cmp_total.trans low key e.key less p.0) p.1

-- a key below all others has no entry
pub none_below : (key least : List ℕ) (es : List Entry) → byte_order key least ≡ Less → above least es ≡ true → value_of key es ≡ None
none_below key least [] less h = refl
none_below key least (e ∷ es) less h =
    let p = above_parts least e es h in
    let here = nat_list_cmp_total.trans key least e.key less p.0 in
    rw (alike_by key e.key Less here) (none_below key e.key es here p.1)

-- ---- with an entry

above_with-step : (least : List ℕ) (e : Entry) (es : List Entry) (new : Entry) (o : Ordering) → byte_order new.key e.key ≡ o
    → byte_order least new.key ≡ Less → above least (e ∷ es) ≡ true → (byte_order e.key new.key ≡ Less → above e.key (with_entry new es) ≡ true)
    → above least (match_ordering o (new ∷ e ∷ es) (new ∷ es) (e ∷ with_entry new es)) ≡ true
above_with-step least e es new Less is less h more =
    above_from least new (e ∷ es) less (above_from new.key e es is (above_parts least e es h).1)
above_with-step least e es new Equal is less h more =
    above_from least new es less
    (subst (λ (key : List ℕ). above key es ≡ true) (sym (exact_bytes new.key e.key is)) (above_parts least e es h).1)
above_with-step least e es new Greater is less h more =
    above_from least e (with_entry new es) (above_parts least e es h).0 (more (less_back new.key e.key is))

above_with : (least : List ℕ) (es : List Entry) (new : Entry) → byte_order least new.key ≡ Less → above least es ≡ true
    → above least (with_entry new es) ≡ true
above_with least [] new less h = above_from least new [] less refl
above_with least (e ∷ es) new less h =
    above_with-step least e es new (byte_order new.key e.key) refl less h
    (λ later. above_with e.key es new later (above_parts least e es h).1)

ascends_with-step : (e : Entry) (es : List Entry) (new : Entry) (o : Ordering) → byte_order new.key e.key ≡ o → above e.key es ≡ true
    → ascends (match_ordering o (new ∷ e ∷ es) (new ∷ es) (e ∷ with_entry new es)) ≡ true
ascends_with-step e es new Less is h = above_from new.key e es is h
ascends_with-step e es new Equal is h = subst (λ (key : List ℕ). above key es ≡ true) (sym (exact_bytes new.key e.key is)) h
ascends_with-step e es new Greater is h = above_with e.key es new (less_back new.key e.key is) h

ascends_with : (es : List Entry) (new : Entry) → ascends es ≡ true → ascends (with_entry new es) ≡ true
ascends_with [] new h = refl
ascends_with (e ∷ es) new h = ascends_with-step e es new (byte_order new.key e.key) refl h

length_old-step : (e : Entry) (es : List Entry) (new : Entry) (o : Ordering) → byte_order new.key e.key ≡ o → above e.key es ≡ true
    → (is_some (value_of new.key es) ≡ true → length (with_entry new es) ≡ length es)
    → is_some (if is_eq o then Some e.value else value_of new.key es) ≡ true
    → length (match_ordering o (new ∷ e ∷ es) (new ∷ es) (e ∷ with_entry new es)) ≡ suc (length es)
length_old-step e es new Less is h more there =
    let none : false ≡ true = sym (ap is_some (none_below new.key e.key es is h)) ∙ there in
    absurd cc
length_old-step e es new Equal is h more there = refl
length_old-step e es new Greater is h more there = ap suc (more there)

-- where a key has an entry there is not one more
length_old : (es : List Entry) (new : Entry) → ascends es ≡ true → is_some (value_of new.key es) ≡ true → length (with_entry new es) ≡ length es
length_old [] new h there = absurd cc
length_old (e ∷ es) new h there =
    length_old-step e es new (byte_order new.key e.key) refl h (length_old es new (ascends_above e.key es h))
    (subst (λ (same : Bool). is_some (if same then Some e.value else value_of new.key es) ≡ true) (alike_by new.key e.key _ refl) there)

length_with-step : (e : Entry) (es : List Entry) (new : Entry) (o : Ordering) → length (with_entry new es) ≤ suc (length es)
    → length (match_ordering o (new ∷ e ∷ es) (new ∷ es) (e ∷ with_entry new es)) ≤ suc (suc (length es))
length_with-step e es new Less more = omega arith
length_with-step e es new Equal more = omega arith
length_with-step e es new Greater more = omega (arith, more)

length_with : (es : List Entry) (new : Entry) → length (with_entry new es) ≤ suc (length es)
length_with [] new = omega arith
length_with (e ∷ es) new = length_with-step e es new (byte_order new.key e.key) (length_with es new)

each_with-step : (e : Entry) (es : List Entry) (new : Entry) (o : Ordering) → IsEntry new → Each IsEntry (e ∷ es) → Each IsEntry (with_entry new es)
    → Each IsEntry (match_ordering o (new ∷ e ∷ es) (new ∷ es) (e ∷ with_entry new es))
each_with-step e es new Less fits h more = (fits, h)
each_with-step e es new Equal fits h more = (fits, h.1)
each_with-step e es new Greater fits h more = (h.0, more)

each_with : (es : List Entry) (new : Entry) → IsEntry new → Each IsEntry es → Each IsEntry (with_entry new es)
each_with [] new fits h = (fits, tt)
each_with (e ∷ es) new fits h = each_with-step e es new (byte_order new.key e.key) fits h (each_with es new fits h.1)

-- ---- without an entry

above_without-step : (least key : List ℕ) (e : Entry) (es : List Entry) (same : Bool) → above least (e ∷ es) ≡ true
    → above e.key (without key es) ≡ true → above least (if same then es else e ∷ without key es) ≡ true
above_without-step least key e es true h more = let p = above_parts least e es h in above_lower least e.key es p.0 p.1
above_without-step least key e es false h more = above_from least e (without key es) (above_parts least e es h).0 more

above_without : (least key : List ℕ) (es : List Entry) → above least es ≡ true → above least (without key es) ≡ true
above_without least key [] h = refl
above_without least key (e ∷ es) h =
    above_without-step least key e es (bytes_eq key e.key) h (above_without e.key key es (above_parts least e es h).1)

ascends_without-step : (key : List ℕ) (e : Entry) (es : List Entry) (same : Bool) → above e.key es ≡ true
    → ascends (if same then es else e ∷ without key es) ≡ true
ascends_without-step key e es true h = ascends_above e.key es h
ascends_without-step key e es false h = above_without e.key key es h

ascends_without : (key : List ℕ) (es : List Entry) → ascends es ≡ true → ascends (without key es) ≡ true
ascends_without key [] h = refl
ascends_without key (e ∷ es) h = ascends_without-step key e es (bytes_eq key e.key) h

length_without-step : (key : List ℕ) (e : Entry) (es : List Entry) (same : Bool) → length (without key es) ≤ length es
    → length (if same then es else e ∷ without key es) ≤ suc (length es)
length_without-step key e es true more = omega arith
length_without-step key e es false more = omega (arith, more)

length_without : (key : List ℕ) (es : List Entry) → length (without key es) ≤ length es
length_without key [] = omega arith
length_without key (e ∷ es) = length_without-step key e es (bytes_eq key e.key) (length_without key es)

each_without-step : (key : List ℕ) (e : Entry) (es : List Entry) (same : Bool) → Each IsEntry (e ∷ es) → Each IsEntry (without key es)
    → Each IsEntry (if same then es else e ∷ without key es)
each_without-step key e es true h more = h.1
each_without-step key e es false h more = (h.0, more)

each_without : (key : List ℕ) (es : List Entry) → Each IsEntry es → Each IsEntry (without key es)
each_without key [] h = tt
each_without key (e ∷ es) h = each_without-step key e es (bytes_eq key e.key) h (each_without key es h.1)

-- ---- stores

-- a store with another value of a key that is there
pub store_old : (s : List Entry) (new : Entry) → IsStore s → IsEntry new → is_some (value_of new.key s) ≡ true → IsStore (with_entry new s)
store_old s new h fits there = record {
  order = ascends_with s new h.order;
  few = omega (arith, length_old s new h.order there, h.few);
  each = each_with s new fits h.each;
}

-- a store with one key more
pub store_new : (s : List Entry) (new : Entry) → IsStore s → IsEntry new → length s < 4096 → IsStore (with_entry new s)
store_new s new h fits few = record {
  order = ascends_with s new h.order;
  few = omega (arith, length_with s new, few);
  each = each_with s new fits h.each;
}

pub store_without : (s : List Entry) (key : List ℕ) → IsStore s → IsStore (without key s)
store_without s key h = record {
  order = ascends_without key s h.order;
  few = omega (arith, length_without key s, h.few);
  each = each_without key s h.each;
}
