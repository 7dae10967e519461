-- What a turn of the service leaves and replies.
use Rattle.std.proofs.Common.{◌≡◌, ℕ, ◌<◌, ◌≤◌, true, get_or, slice_set, List, ◌++◌, length, Result, Ok, Err, refl, sym, ap, subst, ◌∙◌, codes}
use Rattle.std.specs.Prelude.{IfOk, OnOk}
use Rattle.std.specs.Option.{is_some}
use Rattle.std.specs.List.{insert, remove}
use Rattle.std.proofs.lemmas.Bool.{lt-ltb, le-ltb}
use Rattle.app_kv.specs.Operations.{is_value, put, get, del}
use Rattle.app_kv.specs.Stores.{IsEntry, IsStore, next_of, reply_of, Found, Missing}
use Rattle.app_kv.specs.Entries.{store_old, store_new, store_without}
use Rattle.app_kv.specs.declared.store.Entry.{Entry}
use Rattle.app_kv.proofs.Places.{made, found_value, found_put, missing_put, found_out, each_at}

-- ---- results

pub told_as : {E : Type 0} (r : Result (List ℕ) E) (text other : List ℕ) → text ≡ other → IfOk r (λ reply. reply ≡ text)
    → IfOk r (λ reply. reply ≡ other)
told_as r text other same h = subst (λ (text : List ℕ). IfOk r (λ reply. reply ≡ text)) same h

pub on_ok : {A E : Type 0} (r : Result A E) (P : Type 0) → P → OnOk r P
on_ok (Ok x) P p = p
on_ok (Err e) P p = tt

-- ---- a put of a key that is there

module _ (s : List Entry) (key value : List ℕ) (at : ℕ) (f : Found s key at) (d : Entry) where
  pub old_reply : codes "old" ≡ reply_of s (put key value)
  old_reply = rw (found_value s key at f d) refl

  pub old_state : slice_set s at (made (get_or s at d).key value) ≡ next_of s (put key value)
  old_state = found_put s key value at d f ∙ rw (found_value s key at f d) refl

  pub old_store : IsStore s → IsEntry (made key value) → IsStore (slice_set s at (made (get_or s at d).key value))
  old_store h fits =
      subst IsStore (sym (found_put s key value at d f)) (store_old s (made key value) h fits (ap is_some (found_value s key at f d)))

  -- the entry as it was found, with the new value in it
  pub old_at : (new : List ℕ) → d ≡ get_or s at d → new ≡ value → slice_set s at (made d.key new) ≡ slice_set s at (made (get_or s at d).key value)
  old_at new is same =
      ap (λ (e : Entry). slice_set s at (made e.key new)) is ∙ ap (λ (text : List ℕ). slice_set s at (made (get_or s at d).key text)) same

-- ---- a put of a key that is not

module _ (s : List Entry) (key value : List ℕ) (at : ℕ) (m : Missing s key at) where
  pub full_reply : 4096 ≤ length s → codes "full" ≡ reply_of s (put key value)
  full_reply full = rw (m.none, le-ltb (length s) 4096 full) refl

  pub full_state : 4096 ≤ length s → s ≡ next_of s (put key value)
  full_state full = rw (m.none, le-ltb (length s) 4096 full) refl

  pub new_reply : length s < 4096 → codes "new" ≡ reply_of s (put key value)
  new_reply room = rw (m.none, lt-ltb (length s) 4096 room) refl

  pub new_state : length s < 4096 → insert s at (made key value) ≡ next_of s (put key value)
  new_state room = missing_put s (made key value) at m ∙ rw (m.none, lt-ltb (length s) 4096 room) refl

  pub new_store : IsStore s → IsEntry (made key value) → length s < 4096 → IsStore (insert s at (made key value))
  new_store h fits room =
      subst IsStore (sym (missing_put s (made key value) at m)) (store_new s (made key value) h fits room)

-- ---- get

module _ (s : List Entry) (key : List ℕ) (at : ℕ) (f : Found s key at) (h : IsStore s) (d : Entry) where
  pub value_fits : is_value (get_or s at d).value ≡ true
  value_fits = (each_at IsEntry s h.each at d f.within).1

  pub get_told : codes "=" ++ (get_or s at d).value ≡ reply_of s (get key)
  get_told = rw (found_value s key at f d) refl

-- ---- del

pub gone_reply : (s : List Entry) (key : List ℕ) (at : ℕ) (f : Found s key at) (d : Entry) → codes "gone" ≡ reply_of s (del key)
gone_reply s key at f d = rw (found_value s key at f d) refl

pub gone_state : (s : List Entry) (key : List ℕ) (at : ℕ) (f : Found s key at) (d : Entry) → remove s at ≡ next_of s (del key)
gone_state s key at f d = found_out s key at d f

pub gone_store : (s : List Entry) (key : List ℕ) (at : ℕ) (f : Found s key at) (d : Entry) → IsStore s → IsStore (remove s at)
gone_store s key at f d h = subst IsStore (sym (found_out s key at d f)) (store_without s key h)
