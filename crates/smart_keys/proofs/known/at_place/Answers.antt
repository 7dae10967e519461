use Rattle.std.proofs.Common.{length, refl, sym, ap, ◌∙◌}
use Rattle.std.proofs.lemmas.Bool.{ltb-true}
use Rattle.std.proofs.lemmas.Option.{IfSome_then, slice_get_read}
use Rattle.smart_keys.specs.Keys.{hmac}
use Rattle.smart_keys.proofs.Learnt.{key_there}
use Rattle.smart_keys.proofs.known.at_place.Goals as goal

pub returns-in-Some : goal.returns-in-Some
returns-in-Some c =
    let keys = c.args.keys.now in
    let there = sym (slice_get_read keys (length keys) c.args.place c.in-Some.key.now refl (ltb-true c.args.place (length keys) (sym c.in-Some.ensures.lookup.0)) c.in-Some.ensures.lookup.1) in
    IfSome_then c.hash_of.result c.hash_of.ensures (λ hash is secret are. is.0 ∙ (key_there secret keys c.args.place c.in-Some.key.now are there ∙ ap (λ n. hmac secret n) is.1))
