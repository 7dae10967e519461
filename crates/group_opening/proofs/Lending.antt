-- How a group takes what its parties need from a room, one party after the other, and how it puts that back, from the last party to the first.
use Rattle.std.proofs.Common.{◌≡◌, ℕ, ◌+◌, ◌<◌, ◌≤◌, List, Option, None, subst, arith}
use Rattle.disk_model.specs.Rooms.{Address, address, KeepsOthers}
use Rattle.member_opening.specs.Devices.{AreAsBefore, AreFree, KeepsBeside}
use Rattle.member_opening.specs.Rooms.{Room}
use Rattle.group_opening.specs.Rooms.{IsLent, IsReturned, KeepsRest}
use Rattle.group_opening.proofs.Ranges.{change, lent-devices, lent-more, lent-rest-back, lent-sink, rest-devices, rest-sink, rest-wider, returned-ahead, returned-devices, returned-sink}

-- ---- a range by other names

module _ {C : Type 0} (dir dir' : List ℕ) (first first' behind behind' devices : ℕ) (room : Room C) (same : dir' ≡ dir) (low : first' ≡ first) (high : behind' ≡ behind) where
  pub lent-along : IsLent dir' first' behind' devices room → IsLent dir first behind devices room
  lent-along is =
      subst (λ (d : List ℕ). IsLent d first behind devices room) same
      (subst (λ (n : ℕ). IsLent dir' n behind devices room) low (subst (λ (n : ℕ). IsLent dir' first' n devices room) high is))

  pub returned-along : IsReturned dir' first' behind' devices room → IsReturned dir first behind devices room
  returned-along is =
      subst (λ (d : List ℕ). IsReturned d first behind devices room) same
      (subst (λ (n : ℕ). IsReturned dir' n behind devices room) low (subst (λ (n : ℕ). IsReturned dir' first' n devices room) high is))

  pub rest-along : KeepsRest dir' first' behind' devices room → KeepsRest dir first behind devices room
  rest-along is =
      subst (λ (d : List ℕ). KeepsRest d first behind devices room) same
      (subst (λ (n : ℕ). KeepsRest dir' n behind devices room) low (subst (λ (n : ℕ). KeepsRest dir' first' n devices room) high is))

-- ---- one party more, of which something is taken

module _ {C : Type 0} (dir dir' : List ℕ) (first number member : ℕ) (k0 k1 k2 : Address → C) (t0 t1 t2 : Address → Option ℕ) (same : dir' ≡ dir) (here : member ≡ number) (within : first ≤ number) where
  next-high : member + 1 ≡ number + 1
  next-high = omega (arith, here)

  next-within : number ≤ number + 1
  next-within = omega arith

  -- the devices of a member
  pub lent-devices-next : IsLent dir first number 4 (change k0 k1 t0 t1) → KeepsBeside dir' member k1 k2 → KeepsBeside dir' member t1 t2 → AreFree t1 dir' member → IsLent dir first (number + 1) 4 (change k0 k2 t0 t2)
  lent-devices-next was kept taken free =
      lent-more dir 4 k0 k1 k2 t0 t1 t2 first number (number + 1) within next-within was
      (lent-along dir dir' number member (number + 1) (member + 1) 4 (change k1 k2 t1 t2) same here next-high (lent-devices dir' member k1 k2 t1 t2 kept taken free))

  -- the sink of a party
  pub lent-sink-next : IsLent dir first number 1 (change k0 k1 t0 t1) → KeepsOthers (address dir' member 0) k1 k2 → KeepsOthers (address dir' member 0) t1 t2 → t1 (address dir' member 0) ≡ None → IsLent dir first (number + 1) 1 (change k0 k2 t0 t2)
  lent-sink-next was kept taken free =
      lent-more dir 1 k0 k1 k2 t0 t1 t2 first number (number + 1) within next-within was
      (lent-along dir dir' number member (number + 1) (member + 1) 1 (change k1 k2 t1 t2) same here next-high (lent-sink dir' member k1 k2 t1 t2 kept taken free))

  -- They could not be had, and what was taken before is put back.
  module _ (behind : ℕ) (k3 : Address → C) (t3 : Address → Option ℕ) (upto : number < behind) where
    pub rest-devices-next : IsLent dir first number 4 (change k0 k1 t0 t1) → KeepsBeside dir' member k1 k2 → KeepsBeside dir' member t1 t2 → AreAsBefore t1 t2 dir' member
        → IsReturned dir first number 4 (change k2 k3 t2 t3) → KeepsRest dir first behind 4 (change k0 k3 t0 t3)
    rest-devices-next was kept taken back returned =
        let low : first ≤ first = omega arith in
        let least : first ≤ number + 1 = omega (arith, within) in
        let more : number + 1 ≤ behind = omega (arith, upto) in
        rest-wider dir 4 first behind first (number + 1) k0 k3 t0 t3 low least more
        (lent-rest-back dir 4 first number (number + 1) k0 k1 k2 k3 t0 t1 t2 t3 within next-within was
        (rest-along dir dir' number member (number + 1) (member + 1) 4 (change k1 k2 t1 t2) same here next-high (rest-devices dir' member k1 k2 t1 t2 kept taken back)) returned)

    pub rest-sink-next : IsLent dir first number 1 (change k0 k1 t0 t1) → KeepsOthers (address dir' member 0) k1 k2 → KeepsOthers (address dir' member 0) t1 t2 → t2 (address dir' member 0) ≡ t1 (address dir' member 0)
        → IsReturned dir first number 1 (change k2 k3 t2 t3) → KeepsRest dir first behind 1 (change k0 k3 t0 t3)
    rest-sink-next was kept taken back returned =
        let low : first ≤ first = omega arith in
        let least : first ≤ number + 1 = omega (arith, within) in
        let more : number + 1 ≤ behind = omega (arith, upto) in
        rest-wider dir 1 first behind first (number + 1) k0 k3 t0 t3 low least more
        (lent-rest-back dir 1 first number (number + 1) k0 k1 k2 k3 t0 t1 t2 t3 within next-within was
        (rest-along dir dir' number member (number + 1) (member + 1) 1 (change k1 k2 t1 t2) same here next-high (rest-sink dir' member k1 k2 t1 t2 kept taken back)) returned)

-- ---- the first sink, which is the client's

module _ {C : Type 0} (dir dir' : List ℕ) (member : ℕ) (before after : Address → C) (taken_before taken_after : Address → Option ℕ) (same : dir' ≡ dir) (here : member ≡ 0) (kept : KeepsOthers (address dir' member 0) before after)
    (taken : KeepsOthers (address dir' member 0) taken_before taken_after) where
  pub lent-sink-first : taken_before (address dir' member 0) ≡ None → IsLent dir 0 1 1 (change before after taken_before taken_after)
  lent-sink-first free =
      let high : member + 1 ≡ 1 = omega (arith, here) in
      lent-along dir dir' 0 member 1 (member + 1) 1 (change before after taken_before taken_after) same here high (lent-sink dir' member before after taken_before taken_after kept taken free)

  pub rest-sink-first : (count : ℕ) → taken_after (address dir' member 0) ≡ taken_before (address dir' member 0) → KeepsRest dir 0 (count + 1) 1 (change before after taken_before taken_after)
  rest-sink-first count back =
      let high : member + 1 ≡ 1 = omega (arith, here) in
      let low : 0 ≤ 0 = omega arith in
      let least : 0 ≤ 1 = omega arith in
      let more : 1 ≤ count + 1 = omega arith in
      rest-wider dir 1 0 (count + 1) 0 1 before after taken_before taken_after low least more
      (rest-along dir dir' 0 member 1 (member + 1) 1 (change before after taken_before taken_after) same here high (rest-sink dir' member before after taken_before taken_after kept taken back))

-- ---- one party more, of which something is put back, ahead of those behind it

module _ {C : Type 0} (dir : List ℕ) (left now behind member : ℕ) (k0 k1 k2 : Address → C) (t0 t1 t2 : Address → Option ℕ) (less : now ≡ left + 1) (few : now ≤ behind) (here : member ≡ left) where
  back-high : member + 1 ≡ now
  back-high = omega (arith, less, here)

  back-within : left ≤ now
  back-within = omega (arith, less)

  pub returned-devices-next : IsReturned dir now behind 4 (change k0 k1 t0 t1) → KeepsBeside dir member k1 k2 → KeepsBeside dir member t1 t2 → AreFree t2 dir member → IsReturned dir left behind 4 (change k0 k2 t0 t2)
  returned-devices-next was kept taken free =
      returned-ahead dir 4 k0 k1 k2 t0 t1 t2 left now behind back-within few was
      (subst (λ (n : ℕ). IsReturned dir left n 4 (change k1 k2 t1 t2)) back-high
      (subst (λ (n : ℕ). IsReturned dir n (member + 1) 4 (change k1 k2 t1 t2)) here (returned-devices dir member k1 k2 t1 t2 kept taken free)))

  pub returned-sink-next : IsReturned dir now behind 1 (change k0 k1 t0 t1) → KeepsOthers (address dir member 0) k1 k2 → KeepsOthers (address dir member 0) t1 t2 → t2 (address dir member 0) ≡ None → IsReturned dir left behind 1 (change k0 k2 t0 t2)
  returned-sink-next was kept taken free =
      returned-ahead dir 1 k0 k1 k2 t0 t1 t2 left now behind back-within few was
      (subst (λ (n : ℕ). IsReturned dir left n 1 (change k1 k2 t1 t2)) back-high
      (subst (λ (n : ℕ). IsReturned dir n (member + 1) 1 (change k1 k2 t1 t2)) here (returned-sink dir member k1 k2 t1 t2 kept taken free)))
