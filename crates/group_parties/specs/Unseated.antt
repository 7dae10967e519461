-- What is left of a member that got no seat.
use Rattle.std.specs.Prelude.{◌≡◌, ◌++◌, ℕ, false, List, [], ◌∷◌, None, Result, IfOk, IfErr}
use Rattle.durable_store.specs.declared.store.Store.{Store}
use Rattle.group_parties.specs.declared.ending.MemberEnd.{MemberEnd}
use Rattle.group_parties.specs.declared.seating.Station.{Station}
use Rattle.group_parties.specs.declared.seating.Unseated.{Unseated}

module _ {S D O : Type 0} where
  -- Nothing has happened to it.
  pub record IsUnseated (s : Station S D O) (e : MemberEnd D O) : Type 0 where
    pub member : e.member ≡ s.member
    pub store : e.store ≡ s.store
    pub sound : (e.failed ≡ false) × (e.worn ≡ false)
    pub none : e.lived ≡ None

module _ {D O : Type 0} where
  -- the end of a member to which nothing has happened
  abbrev pub unseated_end : ℕ → Store D → O → MemberEnd D O
  unseated_end member store sink = record { member = member; sink = sink; failed = false; store = store; worn = false; lived = None }

  -- A member with a seat was put behind others with one, or what is left of it behind what is left of others.
  pub record IsPut {R : Type 0} (member : ℕ) (seated : Result R (Unseated D O)) (runners now : List R) (left after : List (MemberEnd D O)) : Type 0 where
    pub ok : IfOk seated (λ r. (now ≡ runners ++ r ∷ []) × (after ≡ left))
    pub err : IfErr seated (λ u. (now ≡ runners) × (after ≡ left ++ unseated_end member u.store u.sink ∷ []))
