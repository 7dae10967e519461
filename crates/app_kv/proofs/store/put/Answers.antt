use Rattle.std.proofs.Common.{ap, sym, ◌∙◌, List, ℕ, subst, arith}
use Rattle.std.specs.List.{insert}
use Rattle.app_kv.specs.Stores.{IsStore, Found, Missing}
use Rattle.app_kv.specs.declared.store.Entry.{Entry}
use Rattle.app_kv.proofs.Places.{made}
use Rattle.app_kv.proofs.Turns.{old_reply, old_at, old_state, old_store, new_state, new_store}
use Rattle.app_kv.proofs.store.put.Goals as goal

pub returns-in_ok-reply-in-Ok-clause-reply : goal.returns-in_ok-reply-in-Ok-clause-reply
returns-in_ok-reply-in-Ok-clause-reply c =
    let f = subst (λ (s : List Entry). Found s c.args.key.now c.in-Ok.at) c.as_slice.ensures.value c.in-Ok.ensures.found in
    c.in_ok-reply-in-Ok.ensures ∙ old_reply c.args.entries.now.items c.args.key.now c.args.value.now c.in-Ok.at f c.index_mut.result.now

pub returns-in_ok-reply-in-Ok-clause-state : goal.returns-in_ok-reply-in-Ok-clause-state
returns-in_ok-reply-in-Ok-clause-state c =
    let f = subst (λ (s : List Entry). Found s c.args.key.now c.in-Ok.at) c.as_slice.ensures.value c.in-Ok.ensures.found in
    let d : Entry = c.index_mut.result.now in
    old_at c.args.entries.now.items c.args.key.now c.args.value.now c.in-Ok.at f d c.in_ok-value-in-Ok.value c.index_mut.ensures.value c.in_ok-value-in-Ok.ensures
    ∙ old_state c.args.entries.now.items c.args.key.now c.args.value.now c.in-Ok.at f d

pub returns-in_ok-reply-in-Ok-clause-store : goal.returns-in_ok-reply-in-Ok-clause-store
returns-in_ok-reply-in-Ok-clause-store c =
    let f = subst (λ (s : List Entry). Found s c.args.key.now c.in-Ok.at) c.as_slice.ensures.value c.in-Ok.ensures.found in
    let d : Entry = c.index_mut.result.now in
    subst IsStore
    (sym (old_at c.args.entries.now.items c.args.key.now c.args.value.now c.in-Ok.at f d c.in_ok-value-in-Ok.value c.index_mut.ensures.value c.in_ok-value-in-Ok.ensures))
    (old_store c.args.entries.now.items c.args.key.now c.args.value.now c.in-Ok.at f d c.requires.store (c.requires.key, c.requires.value))

pub returns-in_ok-insert-in-Err-clause-state : goal.returns-in_ok-insert-in-Err-clause-state
returns-in_ok-insert-in-Err-clause-state c =
    let s : List Entry = c.args.entries.now.items in
    let m = subst (λ (s : List Entry). Missing s c.args.key.now c.in-Err.at) c.as_slice.ensures.value c.in-Err.ensures.missing in
    c.in_ok-insert-in-Err.ensures.items
    ∙ ap (λ (key : List ℕ). insert s c.in-Err.at (made key c.in_ok-from_slice-in-Err-2.field-0)) c.in_ok-from_slice-in-Err.ensures
    ∙ ap (λ (value : List ℕ). insert s c.in-Err.at (made c.args.key.now value)) c.in_ok-from_slice-in-Err-2.ensures
    ∙ new_state s c.args.key.now c.args.value.now c.in-Err.at m (omega (arith, c.len.ensures, c.if-len-ge-ENTRIES.false))

pub returns-in_ok-insert-in-Err-clause-store : goal.returns-in_ok-insert-in-Err-clause-store
returns-in_ok-insert-in-Err-clause-store c =
    let s : List Entry = c.args.entries.now.items in
    let m = subst (λ (s : List Entry). Missing s c.args.key.now c.in-Err.at) c.as_slice.ensures.value c.in-Err.ensures.missing in
    let is = c.in_ok-insert-in-Err.ensures.items
    ∙ ap (λ (key : List ℕ). insert s c.in-Err.at (made key c.in_ok-from_slice-in-Err-2.field-0)) c.in_ok-from_slice-in-Err.ensures
    ∙ ap (λ (value : List ℕ). insert s c.in-Err.at (made c.args.key.now value)) c.in_ok-from_slice-in-Err-2.ensures in
    subst IsStore (sym is)
    (new_store s c.args.key.now c.args.value.now c.in-Err.at m c.requires.store (c.requires.key, c.requires.value) (omega (arith, c.len.ensures, c.if-len-ge-ENTRIES.false)))
