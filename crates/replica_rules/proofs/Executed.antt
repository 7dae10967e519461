-- What the table of clients tells of executed requests. What is proved of executions rests on these three laws alone: a number that may be
-- executed has not been; an execution that is noted has been; and what has been executed stays so.
use Rattle.std.proofs.Common.{◌≡◌, ℕ, ◌+◌, ◌≤◌, ◌==◌, Bool, true, false, List, [], ◌∷◌, refl, ap, ◌∙◌, subst, nat_lt, nat_le, arith}
use Rattle.std.proofs.lemmas.Bool.{eq-eqb, eqb-true, leb-true, le-leb, false_from_ne_true}
use Rattle.smart_service.specs.Tables.{last_seq, may_execute, is_executed, noting}
use Rattle.smart_service.specs.declared.table.Execution.{Execution}
use Rattle.smart_service.specs.declared.table.TableLine.{TableLine}

-- ---- the last number of a client

-- the first line of a table says its client's number
own_line : (x : Execution) (lines : List TableLine) → last_seq (record { last = x } ∷ lines) x.client ≡ x.seq
own_line x lines = rw (eq-eqb x.client x.client refl) refl

-- the same of a table with one more line in front, by its two tests
noting_same : (old : TableLine) (olds : List TableLine) (x : Execution) (here less : Bool) → (old.last.client == x.client) ≡ here → nat_lt x.client old.last.client ≡ less
    → last_seq (noting olds x) x.client ≡ x.seq → last_seq (noting (old ∷ olds) x) x.client ≡ x.seq
noting_same old olds x true less is lt same = rw is (own_line x olds)
noting_same old olds x false true is lt same = rw (is, lt) (own_line x (old ∷ olds))
noting_same old olds x false false is lt same = rw (is, lt, is) same

-- an execution that is noted has its client's last number
pub last_same : (table : List TableLine) (x : Execution) → last_seq (noting table x) x.client ≡ x.seq
last_same [] x = own_line x []
last_same (old ∷ olds) x = noting_same old olds x (old.last.client == x.client) (nat_lt x.client old.last.client) refl refl (last_same olds x)

-- the same of another client, of a table with one more line in front
noting_other : (old : TableLine) (olds : List TableLine) (x : Execution) (c : ℕ) (here less : Bool) → (old.last.client == x.client) ≡ here → nat_lt x.client old.last.client ≡ less
    → (x.client == c) ≡ false → last_seq (noting olds x) c ≡ last_seq olds c → last_seq (noting (old ∷ olds) x) c ≡ last_seq (old ∷ olds) c
noting_other old olds x c true less is lt apart same =
    let other : (old.last.client == c) ≡ false = ap (λ k. k == c) (eqb-true old.last.client x.client is) ∙ apart in
    rw (is, apart, other) refl
noting_other old olds x c false true is lt apart same = rw (is, lt, apart) refl
noting_other old olds x c false false is lt apart same = rw (is, lt, same) refl

-- another client's number stays
pub last_other : (table : List TableLine) (x : Execution) (c : ℕ) → (x.client == c) ≡ false → last_seq (noting table x) c ≡ last_seq table c
last_other [] x c apart = rw apart refl
last_other (old ∷ olds) x c apart =
    noting_other old olds x c (old.last.client == x.client) (nat_lt x.client old.last.client) refl refl apart (last_other olds x c apart)

-- an execution that may come lowers no number
last_grows : (table : List TableLine) (x : Execution) (c : ℕ) (same : Bool) → (x.client == c) ≡ same → x.seq ≡ last_seq table x.client + 1 → last_seq table c ≤ last_seq (noting table x) c
last_grows table x c true is next = subst (λ k. last_seq table k ≤ last_seq (noting table x) k) (eqb-true x.client c is) (omega (arith, last_same table x))
last_grows table x c false is next = omega (arith, last_other table x c is)

-- ---- the laws

-- a number that may be executed has not been
pub may_is_fresh : (table : List TableLine) (client seq : ℕ) → may_execute table client seq ≡ true → is_executed table client seq ≡ false
may_is_fresh table client seq may =
    let next : seq ≡ last_seq table client + 1 = eqb-true seq (last_seq table client + 1) may in
    false_from_ne_true (nat_le seq (last_seq table client)) (λ done. omega (arith, leb-true seq (last_seq table client) done, next))

-- an execution that is noted has been
pub noted_is_done : (table : List TableLine) (x : Execution) → is_executed (noting table x) x.client x.seq ≡ true
noted_is_done table x = le-leb x.seq (last_seq (noting table x) x.client) (omega (arith, last_same table x))

-- what has been executed stays so, where one is noted that may be executed
pub done_stays : (table : List TableLine) (x : Execution) (client seq : ℕ) → may_execute table x.client x.seq ≡ true → is_executed table client seq ≡ true
    → is_executed (noting table x) client seq ≡ true
done_stays table x client seq may done =
    let next : x.seq ≡ last_seq table x.client + 1 = eqb-true x.seq (last_seq table x.client + 1) may in
    let grows = last_grows table x client (x.client == client) refl next in
    le-leb seq (last_seq (noting table x) client) (omega (arith, leb-true seq (last_seq table client) done, grows))
