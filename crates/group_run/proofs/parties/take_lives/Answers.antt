use Rattle.std.proofs.Common.{◌≡◌, ◌∙◌, ◌<◌, List, length, map, get_or, Some, refl, sym, ap, arith}
use Rattle.std.proofs.lemmas.List.{take_all}
use Rattle.group_parties.specs.declared.ending.Lived.{Lived}
use Rattle.group_run.proofs.Taking.{at-alike, rest-alike, taken-more, taken-same}
use Rattle.group_run.proofs.parties.take_lives.Goals as goal

pub loop-index-init : goal.loop-index-init
loop-index-init g c = record {
  many = refl;
  same = λ i d within. (refl, (refl, (refl, (refl, refl))));
  rest = refl;
  lives = ap (λ (xs : List Lived). map (λ (x : Lived). Some x) xs) c.new-lives.ensures.items;
}

pub loop-index-preserved : goal.loop-index-preserved
loop-index-preserved g c =
    let l = c.loop-index in
    let old = c.args.members.now in
    let now = l.members in
    let e = c.index_mut.result.now in
    let new = record e { lived = c.take.new.self } in
    let few : l.index < length old.items = omega (arith, c.loop-index-test.true, c.len-index-end.ensures, old.ok.0) in
    let within : l.index < length now.items = omega (arith, few, l.invariant.many, old.ok.0, now.ok.0) in
    let read : e ≡ get_or now.items l.index e = c.index_mut.ensures.value in
    let same = at-alike old.items now.items l.index e few within l.invariant.rest in
    let lived : (get_or old.items l.index e).lived ≡ Some c.in-Some.lived = ap (λ m. m.lived) (sym (read ∙ same)) ∙ sym c.take.ensures.value ∙ c.in-Some.is in record {
      many = l.invariant.many;
      same = λ i d below. taken-same old.items now.items l.index e new few within read (refl, (refl, (refl, (refl, refl)))) (λ i d below. l.invariant.same i d (omega (arith, below, old.ok.0))) i d (omega (arith, below, old.ok.0));
      rest = rest-alike old.items now.items l.index new e few within l.invariant.rest;
      lives = ap (λ (xs : List Lived). map (λ (x : Lived). Some x) xs) c.in_ok-push-in-Some.ensures.items ∙ taken-more (λ m. m.lived) old.items l.index e l.lives.items c.in-Some.lived few l.invariant.lives lived;
    }

pub returns : goal.returns
returns g c =
    let l = c.loop-index in
    let old = c.args.members.now in record {
      many = l.invariant.many;
      same = l.invariant.same;
      lives = l.invariant.lives ∙ ap (λ ms. map (λ m. m.lived) ms) (take_all l.index old.items (omega (arith, c.loop-index-test.false, c.len-index-end.ensures, old.ok.0)));
    }
