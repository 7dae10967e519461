use Rattle.std.proofs.Common.{sym, ◌∙◌, List, subst}
use Rattle.app_kv.specs.Stores.{IsStore, Found, Missing}
use Rattle.app_kv.specs.declared.store.Entry.{Entry}
use Rattle.app_kv.proofs.Places.{none_out}
use Rattle.app_kv.proofs.Turns.{on_ok, gone_reply, gone_state, gone_store}
use Rattle.app_kv.proofs.store.del.Goals as goal

pub returns-in_ok-reply-in-Ok-clause-reply : goal.returns-in_ok-reply-in-Ok-clause-reply
returns-in_ok-reply-in-Ok-clause-reply c =
    let f = subst (λ (s : List Entry). Found s c.args.key.now c.in-Ok.at) c.as_slice.ensures.value c.in-Ok.ensures.found in
    c.in_ok-reply-in-Ok.ensures ∙ gone_reply c.args.entries.now.items c.args.key.now c.in-Ok.at f c.remove-gone.result

pub returns-in_ok-reply-in-Ok-clause-state : goal.returns-in_ok-reply-in-Ok-clause-state
returns-in_ok-reply-in-Ok-clause-state c =
    let f = subst (λ (s : List Entry). Found s c.args.key.now c.in-Ok.at) c.as_slice.ensures.value c.in-Ok.ensures.found in
    c.remove-gone.ensures.items ∙ gone_state c.args.entries.now.items c.args.key.now c.in-Ok.at f c.remove-gone.result

pub returns-in_ok-reply-in-Ok-clause-store : goal.returns-in_ok-reply-in-Ok-clause-store
returns-in_ok-reply-in-Ok-clause-store c =
    let f = subst (λ (s : List Entry). Found s c.args.key.now c.in-Ok.at) c.as_slice.ensures.value c.in-Ok.ensures.found in
    subst IsStore (sym c.remove-gone.ensures.items)
    (gone_store c.args.entries.now.items c.args.key.now c.in-Ok.at f c.remove-gone.result c.requires)

pub returns-in-Err-clause-state : goal.returns-in-Err-clause-state
returns-in-Err-clause-state c =
    let m = subst (λ (s : List Entry). Missing s c.args.key.now c.in-Err.field-0) c.as_slice.ensures.value c.in-Err.ensures.missing in
    on_ok c.from_slice-in-Err.result _ (sym (none_out c.args.entries.now.items c.args.key.now m.none))
