use Rattle.std.proofs.Common.{◌≡◌, ◌<◌, ℕ, Some, map, take, drop, get_or, vec_len}
use Rattle.group_run.proofs.parties.take_lives.Given as goal

abbrev pub invariant-loop-index : goal.invariant-loop-index
invariant-loop-index g l = record {
  many : vec_len l.members ≡ vec_len l.fn.members;
  same : (i : ℕ) (d : _) → i < vec_len l.fn.members → let old = get_or l.fn.members.items i d in let new = get_or l.members.items i d in (new.member ≡ old.member) × ((new.sink ≡ old.sink) × ((new.failed ≡ old.failed) × ((new.store ≡ old.store) × (new.worn ≡ old.worn))));
  rest : drop l.index l.members.items ≡ drop l.index l.fn.members.items;
  lives : map (λ (x : _). Some x) l.lives.items ≡ map (λ m. m.lived) (take l.index l.fn.members.items);
}
