use Rattle.std.proofs.Common.{◌≡◌, ◌++◌, [], ◌∷◌, Some, None, rules}
use Rattle.client_quorum.specs.Clients.{why_ignored, heard}
use Rattle.client_quorum.proofs.Counted.{heard_is, after_is}
use Rattle.client_quorum.proofs.client.Client.hear_reply.Goals as goal

pub returns-in-Ok-clause-heard : goal.returns-in-Ok-clause-heard
returns-in-Ok-clause-heard c =
    let s = c.args.self.now in
    let a = c.args.reply.now in
    let none : why_ignored c.args.ring.now s a ≡ None = search rules in
    let waits : s.waiting ≡ Some c.in-Some-take.request = search rules in
    let pushed : c.push.new.self ≡ s.replies ++ a ∷ [] = search rules in
    heard_is c.args.ring.now s a c.in-Some-take.request none waits c.count.result (λ v known. c.count.ensures.heard s.replies pushed v known)

pub returns-in-Ok-clause-client : goal.returns-in-Ok-clause-client
returns-in-Ok-clause-client c =
    let s = c.args.self.now in
    let a = c.args.reply.now in
    let q = c.in-Some-take.request in
    let none : why_ignored c.args.ring.now s a ≡ None = search rules in
    let waits : s.waiting ≡ Some q = search rules in
    let pushed : c.push.new.self ≡ s.replies ++ a ∷ [] = search rules in
    let is : c.count.result ≡ heard c.args.ring.now s a = heard_is c.args.ring.now s a q none waits c.count.result (λ v known. c.count.ensures.heard s.replies pushed v known) in
    after_is c.args.ring.now s a q none waits c.count.new.self c.count.result (λ v known. c.count.ensures.client s.replies pushed v known) is
