-- What the turns of an outlet write.
use Rattle.std.proofs.Common.{◌≡◌, ◌+◌, ℕ, Bool, true, false, List, [], ◌∷◌, ◌++◌, length, take, Option, refl, sym, ap, ◌∙◌, subst, append_assoc, append-nil, true≢false}
use Rattle.std.specs.List.{flat_map}
use Rattle.std.specs.Io.KnownBytes.{Appends}
use Rattle.std.proofs.KnownBytes.{Appends-nil, Appends-trans}
use Rattle.std.proofs.Math.Seq.{take-append-add, take-length}
use Rattle.std.proofs.lemmas.Grind.{flat_map-append}
use Rattle.frame_stream.specs.Frames.{framed}
use Rattle.group_links.specs.Link.{link_taken}
use Rattle.node_ends.specs.Outlets.{Writes}
use Rattle.node_ends.specs.declared.outlet.Outlet.{Outlet}

pub wrote-all : (a b : Option (List ℕ)) (xs : List ℕ) → Appends a b xs → (count : ℕ) × Appends a b (take count xs)
wrote-all a b xs p = (length xs, subst (Appends a b) (sym (take-length xs)) p)

pub writes-none : (a : Option (List ℕ)) (all : Bool) (i j : Outlet) → link_taken j.link ≡ link_taken i.link → Writes a a all i j
writes-none a all i j same = record { more = []; taken = same ∙ sym (append-nil (link_taken i.link)); count = 0; wrote = Appends-nil a; all = λ _. Appends-nil a }

one-framed : (p : List ℕ) → flat_map framed (p ∷ []) ≡ framed p
one-framed p = append-nil (framed p)

pub writes-one : (a b : Option (List ℕ)) (i j : Outlet) (p : List ℕ) → link_taken j.link ≡ link_taken i.link ++ p ∷ [] → Appends a b (framed p) → Writes a b true i j
writes-one a b i j p taken wrote =
    let all : Appends a b (flat_map framed (p ∷ [])) = subst (Appends a b) (sym (one-framed p)) wrote in
    let front = wrote-all a b (flat_map framed (p ∷ [])) all in record { more = p ∷ []; taken = taken; count = front.0; wrote = front.1; all = λ _. all }

pub writes-front : (a b : Option (List ℕ)) (i j : Outlet) (p : List ℕ) (count : ℕ) → link_taken j.link ≡ link_taken i.link ++ p ∷ [] → Appends a b (take count (framed p)) → Writes a b false i j
writes-front a b i j p count taken wrote = record {
  more = p ∷ [];
  taken = taken;
  count = count;
  wrote = subst (λ (l : List ℕ). Appends a b (take count l)) (sym (one-framed p)) wrote;
  all = λ is. absurd (true≢false (sym is));
}

pub writes-trans : (a b c : Option (List ℕ)) (all : Bool) (i j k : Outlet) → Writes a b true i j → Writes b c all j k → Writes a c all i k
writes-trans a b c all i j k p q =
    let joined : flat_map framed (p.more ++ q.more) ≡ flat_map framed p.more ++ flat_map framed q.more = flat_map-append framed p.more q.more in
    let first : Appends a b (flat_map framed p.more) = p.all refl in
    let front : take (length (flat_map framed p.more) + q.count) (flat_map framed (p.more ++ q.more)) ≡ flat_map framed p.more ++ take q.count (flat_map framed q.more) =
    ap (take (length (flat_map framed p.more) + q.count)) joined ∙ take-append-add (flat_map framed p.more) (flat_map framed q.more) q.count in record {
      more = p.more ++ q.more;
      taken = q.taken ∙ ap (λ (l : List (List ℕ)). l ++ q.more) p.taken ∙ append_assoc (link_taken i.link) p.more q.more;
      count = length (flat_map framed p.more) + q.count;
      wrote = subst (Appends a c) (sym front) (Appends-trans a b c (flat_map framed p.more) (take q.count (flat_map framed q.more)) first q.wrote);
      all = λ is. subst (Appends a c) (sym joined) (Appends-trans a b c (flat_map framed p.more) (flat_map framed q.more) first (q.all is));
    }
