-- A group put together of what is popped from several lists, one of each at a time.
use Rattle.std.proofs.Common.{◌≡◌, ◌∙◌, ℕ, zero, suc, ◌+◌, ◌<◌, List, [], ◌∷◌, ◌++◌, length, map, drop, get_or, replicate, reverse, Option, append-nil, append_assoc, refl, sym, ap, subst, arith}
use Rattle.std.proofs.lemmas.List.{length-append, length-map, length-replicate, map-append, reverse-append}
use Rattle.smart_base.specs.Lists.{Each}
use Rattle.disk_model.specs.Cells.{Cells}
use Rattle.smart_service.specs.Services.{Meaning}
use Rattle.store_laws.specs.Restored.{Images}
use Rattle.member_opening.specs.Restorings.{KeepsCounts}
use Rattle.member_opening.specs.declared.settings.Settings.{Settings}
use Rattle.trail.specs.declared.opening.TrailOpening.{TrailOpening}
use Rattle.group_ends.specs.Ports.{ends}
use Rattle.group_ends.specs.declared.inbox.Inbox.{Inbox}
use Rattle.group_wires.specs.Wires.{all_ends, member_ends, AreDealt, AreFresh, row_ends}
use Rattle.group_wires.specs.declared.dealing.Wires.{Wires}
use Rattle.group_wires.specs.declared.row.Row.{Row}
use Rattle.group_parties.specs.Assembled.{headed_of, station_of, stations_of}
use Rattle.group_opening.specs.Berths.{AreBerths, IsBerth}
use Rattle.group_parties.specs.Crews.{inboxes_of, rows_of, AreFit, HasHead, HasHeads, HaveHeads, IsCrew, IsFit}
use Rattle.group_opening.specs.Lanes.{AreFreshLanes}
use Rattle.group_opening.specs.Runs.{client_head, member_settings}
use Rattle.group_opening.specs.declared.berth.Berth.{Berth}
use Rattle.group_parties.specs.declared.crew.Crew.{Crew}
use Rattle.group_parties.specs.declared.crew.Headed.{Headed}
use Rattle.group_opening.specs.declared.gathering.Lane.{Lane}
use Rattle.group_parties.specs.declared.seating.Station.{Station}
use Rattle.group_opening.specs.declared.settings.GroupSettings.{GroupSettings}

-- each party has a row
pub rows-many : (members : ℕ) (w : Wires) → AreFresh members w → length w.rows.items ≡ members + 1
rows-many members w fresh =
    sym (length-map w.rows.items (λ (row : Row). ends row.ports.items)) ∙ ap length fresh.ends_are
    ∙ length-append (replicate members (all_ends members)) (member_ends members ∷ []) ∙ ap (λ (n : ℕ). n + 1) (length-replicate members (all_ends members))

-- ---- lists of which the last is popped, and the last made is put first

drop-push : {A : Type 0} (n : ℕ) (sinks : List A) (sink : A) → length sinks ≡ n + 1 → drop 1 (sinks ++ sink ∷ []) ≡ drop 1 sinks ++ sink ∷ []
drop-push n [] sink some = absurd (omega (arith, some))
drop-push n (s ∷ sinks) sink some = refl

drop-length : {A : Type 0} (n : ℕ) (sinks : List A) → length sinks ≡ n + 1 → length (drop 1 sinks) ≡ n
drop-length n [] some = absurd (omega (arith, some))
drop-length n (s ∷ sinks) some = omega (arith, some)

turned : {A : Type 0} (left done all : List A) (x : A) → (left ++ x ∷ []) ++ reverse done ≡ all → left ++ reverse (done ++ x ∷ []) ≡ all
turned {A} left done all x is = ap (λ (xs : List A). left ++ xs) (reverse-append done (x ∷ [])) ∙ sym (append_assoc left (x ∷ []) (reverse done)) ∙ is

pub first-stays : {A : Type 0} (n : ℕ) (sinks0 sinks : List A) (sink d : A) → sinks0 ≡ sinks ++ sink ∷ [] → length sinks ≡ n + 1 → get_or sinks 0 d ≡ get_or sinks0 0 d
first-stays {A} n sinks0 [] sink d popped some = absurd (omega (arith, some))
first-stays {A} n sinks0 (s ∷ sinks) sink d popped some = ap (λ (xs : List A). get_or xs 0 d) (sym popped)

pub none-turned : {A : Type 0} (left done : List A) → done ≡ [] → left ++ reverse done ≡ left
none-turned {A} left done none = ap (λ (xs : List A). left ++ reverse xs) none ∙ append-nil left

pub only-sink : {A : Type 0} (sinks rest : List A) (sink d : A) → sinks ≡ rest ++ sink ∷ [] → length sinks ≡ 1 → sink ≡ get_or sinks 0 d
only-sink {A} sinks [] sink d are one = ap (λ (xs : List A). get_or xs 0 d) (sym are)
only-sink {A} sinks (x ∷ rest) sink d are one = absurd (omega (arith, one, ap length are, length-append rest (sink ∷ [])))

sink-behind : {A : Type 0} (i : ℕ) (sinks : List A) (d : A) → get_or (drop 1 sinks) i d ≡ get_or sinks (i + 1) d
sink-behind {A} i [] d = refl
sink-behind {A} i (x ∷ sinks) d =
    let next : suc i ≡ i + 1 = omega arith in
    ap (λ (n : ℕ). get_or (x ∷ sinks) n d) next

-- ---- one more of each

module _ {S D O : Type 0} where
  stations-push : (berths : List (Berth S D)) (lanes : List Lane) (rows : List Row) (inboxes : List Inbox) (sinks : List O) (b : Berth S D) (lane : Lane) (row : Row) (inbox : Inbox) (sink : O)
      → length lanes ≡ length berths → length rows ≡ length berths → length inboxes ≡ length berths → length sinks ≡ length berths
      → stations_of (berths ++ b ∷ []) (lanes ++ lane ∷ []) (rows ++ row ∷ []) (inboxes ++ inbox ∷ []) (sinks ++ sink ∷ []) ≡ stations_of berths lanes rows inboxes sinks ++ station_of b lane row inbox sink ∷ []
  stations-push [] [] [] [] [] b lane row inbox sink el er ei es = refl
  stations-push [] [] [] [] (s ∷ sinks) b lane row inbox sink el er ei es = absurd (omega (arith, es))
  stations-push [] [] [] (i ∷ inboxes) sinks b lane row inbox sink el er ei es = absurd (omega (arith, ei))
  stations-push [] [] (r ∷ rows) inboxes sinks b lane row inbox sink el er ei es = absurd (omega (arith, er))
  stations-push [] (l ∷ lanes) rows inboxes sinks b lane row inbox sink el er ei es = absurd (omega (arith, el))
  stations-push (x ∷ berths) [] rows inboxes sinks b lane row inbox sink el er ei es = absurd (omega (arith, el))
  stations-push (x ∷ berths) (l ∷ lanes) [] inboxes sinks b lane row inbox sink el er ei es = absurd (omega (arith, er))
  stations-push (x ∷ berths) (l ∷ lanes) (r ∷ rows) [] sinks b lane row inbox sink el er ei es = absurd (omega (arith, ei))
  stations-push (x ∷ berths) (l ∷ lanes) (r ∷ rows) (i ∷ inboxes) [] b lane row inbox sink el er ei es = absurd (omega (arith, es))
  stations-push (x ∷ berths) (l ∷ lanes) (r ∷ rows) (i ∷ inboxes) (s ∷ sinks) b lane row inbox sink el er ei es =
      ap (λ (rest : List (Station S D O)). station_of x l r i s ∷ rest)
      (stations-push berths lanes rows inboxes sinks b lane row inbox sink (omega (arith, el)) (omega (arith, er)) (omega (arith, ei)) (omega (arith, es)))

  -- of several lists the last of each was popped
  pub record ArePopped (berths0 berths : List (Berth S D)) (lanes0 lanes : List Lane) (rows0 rows : List Row) (inboxes0 inboxes : List Inbox) (sinks0 sinks : List O) (b : Berth S D) (lane : Lane) (row : Row) (inbox : Inbox) (sink : O) : Type 0 where
    pub berths_are : berths0 ≡ berths ++ b ∷ []
    pub lanes_are : lanes0 ≡ lanes ++ lane ∷ []
    pub rows_are : rows0 ≡ rows ++ row ∷ []
    pub inboxes_are : inboxes0 ≡ inboxes ++ inbox ∷ []
    pub sinks_are : sinks0 ≡ sinks ++ sink ∷ []

  -- as many are left of each, and one more sink
  pub record AreAlike (berths : List (Berth S D)) (lanes : List Lane) (rows : List Row) (inboxes : List Inbox) (sinks : List O) : Type 0 where
    pub lanes_are : length lanes ≡ length berths
    pub rows_are : length rows ≡ length berths
    pub inboxes_are : length inboxes ≡ length berths
    pub sinks_are : length sinks ≡ length berths + 1

  pub stations-step : (berths0 berths : List (Berth S D)) (lanes0 lanes : List Lane) (rows0 rows : List Row) (inboxes0 inboxes : List Inbox) (sinks0 sinks : List O) (b : Berth S D) (lane : Lane) (row : Row) (inbox : Inbox) (sink : O) (done done' all : List (Station S D O))
      → ArePopped berths0 berths lanes0 lanes rows0 rows inboxes0 inboxes sinks0 sinks b lane row inbox sink → AreAlike berths lanes rows inboxes sinks
      → done' ≡ done ++ station_of b lane row inbox sink ∷ []
      → stations_of berths0 lanes0 rows0 inboxes0 (drop 1 sinks0) ++ reverse done ≡ all → stations_of berths lanes rows inboxes (drop 1 sinks) ++ reverse done' ≡ all
  stations-step berths0 berths lanes0 lanes rows0 rows inboxes0 inboxes sinks0 sinks b lane row inbox sink done done' all popped alike more is =
      let rest = drop-length (length berths) sinks alike.sinks_are in
      ap (λ (xs : List (Station S D O)). stations_of berths lanes rows inboxes (drop 1 sinks) ++ reverse xs) more
      ∙ turned (stations_of berths lanes rows inboxes (drop 1 sinks)) done all (station_of b lane row inbox sink)
      (ap (λ (xs : List (Station S D O)). xs ++ reverse done)
      (sym
      (ap (λ (xs : List (Berth S D)). stations_of xs lanes0 rows0 inboxes0 (drop 1 sinks0)) popped.berths_are
      ∙ ap (λ (xs : List Lane). stations_of (berths ++ b ∷ []) xs rows0 inboxes0 (drop 1 sinks0)) popped.lanes_are
      ∙ ap (λ (xs : List Row). stations_of (berths ++ b ∷ []) (lanes ++ lane ∷ []) xs inboxes0 (drop 1 sinks0)) popped.rows_are
      ∙ ap (λ (xs : List Inbox). stations_of (berths ++ b ∷ []) (lanes ++ lane ∷ []) (rows ++ row ∷ []) xs (drop 1 sinks0)) popped.inboxes_are
      ∙ ap (λ (xs : List O). stations_of (berths ++ b ∷ []) (lanes ++ lane ∷ []) (rows ++ row ∷ []) (inboxes ++ inbox ∷ []) xs) (ap (drop 1) popped.sinks_are ∙ drop-push (length berths) sinks sink alike.sinks_are)
      ∙ stations-push berths lanes rows inboxes (drop 1 sinks) b lane row inbox sink alike.lanes_are alike.rows_are alike.inboxes_are rest))
      ∙ is)

  -- ---- before the first of them, and behind the last

  pub all-stations : (berths : List (Berth S D)) (lanes : List Lane) (rows : List Row) (inboxes : List Inbox) (sinks : List O) (done all : List (Station S D O)) → berths ≡ []
      → stations_of berths lanes rows inboxes sinks ++ reverse done ≡ all → reverse done ≡ all
  all-stations [] lanes rows inboxes sinks done all none is = is
  all-stations (b ∷ berths) lanes rows inboxes sinks done all none is = cc none

  -- ---- what the members are, one by one

  rows-are : (berths : List (Berth S D)) (lanes : List Lane) (rows : List Row) (inboxes : List Inbox) (sinks : List O) → length lanes ≡ length berths → length rows ≡ length berths → length inboxes ≡ length berths → length sinks ≡ length berths
      → map (λ (s : Station S D O). s.row) (stations_of berths lanes rows inboxes sinks) ≡ rows
  rows-are [] lanes [] inboxes sinks el er ei es = refl
  rows-are [] lanes (r ∷ rows) inboxes sinks el er ei es = absurd (omega (arith, er))
  rows-are (x ∷ berths) [] rows inboxes sinks el er ei es = absurd (omega (arith, el))
  rows-are (x ∷ berths) (l ∷ lanes) [] inboxes sinks el er ei es = absurd (omega (arith, er))
  rows-are (x ∷ berths) (l ∷ lanes) (r ∷ rows) [] sinks el er ei es = absurd (omega (arith, ei))
  rows-are (x ∷ berths) (l ∷ lanes) (r ∷ rows) (i ∷ inboxes) [] el er ei es = absurd (omega (arith, es))
  rows-are (x ∷ berths) (l ∷ lanes) (r ∷ rows) (i ∷ inboxes) (s ∷ sinks) el er ei es =
      ap (λ (rest : List Row). r ∷ rest) (rows-are berths lanes rows inboxes sinks (omega (arith, el)) (omega (arith, er)) (omega (arith, ei)) (omega (arith, es)))

  inboxes-are : (berths : List (Berth S D)) (lanes : List Lane) (rows : List Row) (inboxes : List Inbox) (sinks : List O) → length lanes ≡ length berths → length rows ≡ length berths → length inboxes ≡ length berths → length sinks ≡ length berths
      → map (λ (s : Station S D O). s.inbox) (stations_of berths lanes rows inboxes sinks) ≡ inboxes
  inboxes-are [] lanes rows [] sinks el er ei es = refl
  inboxes-are [] lanes rows (i ∷ inboxes) sinks el er ei es = absurd (omega (arith, ei))
  inboxes-are (x ∷ berths) [] rows inboxes sinks el er ei es = absurd (omega (arith, el))
  inboxes-are (x ∷ berths) (l ∷ lanes) [] inboxes sinks el er ei es = absurd (omega (arith, er))
  inboxes-are (x ∷ berths) (l ∷ lanes) (r ∷ rows) [] sinks el er ei es = absurd (omega (arith, ei))
  inboxes-are (x ∷ berths) (l ∷ lanes) (r ∷ rows) (i ∷ inboxes) [] el er ei es = absurd (omega (arith, es))
  inboxes-are (x ∷ berths) (l ∷ lanes) (r ∷ rows) (i ∷ inboxes) (s ∷ sinks) el er ei es =
      ap (λ (rest : List Inbox). i ∷ rest) (inboxes-are berths lanes rows inboxes sinks (omega (arith, el)) (omega (arith, er)) (omega (arith, ei)) (omega (arith, es)))

  as-many : (berths : List (Berth S D)) (lanes : List Lane) (rows : List Row) (inboxes : List Inbox) (sinks : List O) → length lanes ≡ length berths → length rows ≡ length berths → length inboxes ≡ length berths → length sinks ≡ length berths
      → length (stations_of berths lanes rows inboxes sinks) ≡ length berths
  as-many [] lanes rows inboxes sinks el er ei es = refl
  as-many (x ∷ berths) [] rows inboxes sinks el er ei es = absurd (omega (arith, el))
  as-many (x ∷ berths) (l ∷ lanes) [] inboxes sinks el er ei es = absurd (omega (arith, er))
  as-many (x ∷ berths) (l ∷ lanes) (r ∷ rows) [] sinks el er ei es = absurd (omega (arith, ei))
  as-many (x ∷ berths) (l ∷ lanes) (r ∷ rows) (i ∷ inboxes) [] el er ei es = absurd (omega (arith, es))
  as-many (x ∷ berths) (l ∷ lanes) (r ∷ rows) (i ∷ inboxes) (s ∷ sinks) el er ei es =
      ap suc (as-many berths lanes rows inboxes sinks (omega (arith, el)) (omega (arith, er)) (omega (arith, ei)) (omega (arith, es)))

  -- the store and the sink of each
  pub each-store : (i : ℕ) (berths : List (Berth S D)) (lanes : List Lane) (rows : List Row) (inboxes : List Inbox) (sinks : List O) (b : Berth S D) (s : Station S D O) → length lanes ≡ length berths → length rows ≡ length berths → length inboxes ≡ length berths → length sinks ≡ length berths
      → i < length berths → (get_or (stations_of berths lanes rows inboxes sinks) i s).store ≡ (get_or berths i b).store
  each-store i [] lanes rows inboxes sinks b s el er ei es within = absurd (omega (arith, within))
  each-store i (x ∷ berths) [] rows inboxes sinks b s el er ei es within = absurd (omega (arith, el))
  each-store i (x ∷ berths) (l ∷ lanes) [] inboxes sinks b s el er ei es within = absurd (omega (arith, er))
  each-store i (x ∷ berths) (l ∷ lanes) (r ∷ rows) [] sinks b s el er ei es within = absurd (omega (arith, ei))
  each-store i (x ∷ berths) (l ∷ lanes) (r ∷ rows) (j ∷ inboxes) [] b s el er ei es within = absurd (omega (arith, es))
  each-store zero (x ∷ berths) (l ∷ lanes) (r ∷ rows) (j ∷ inboxes) (k ∷ sinks) b s el er ei es within = refl
  each-store (suc i) (x ∷ berths) (l ∷ lanes) (r ∷ rows) (j ∷ inboxes) (k ∷ sinks) b s el er ei es within =
      each-store i berths lanes rows inboxes sinks b s (omega (arith, el)) (omega (arith, er)) (omega (arith, ei)) (omega (arith, es)) (omega (arith, within))

  pub each-sink : (i : ℕ) (berths : List (Berth S D)) (lanes : List Lane) (rows : List Row) (inboxes : List Inbox) (sinks : List O) (d : O) (s : Station S D O) → length lanes ≡ length berths → length rows ≡ length berths → length inboxes ≡ length berths → length sinks ≡ length berths
      → i < length berths → (get_or (stations_of berths lanes rows inboxes sinks) i s).sink ≡ get_or sinks i d
  each-sink i [] lanes rows inboxes sinks d s el er ei es within = absurd (omega (arith, within))
  each-sink i (x ∷ berths) [] rows inboxes sinks d s el er ei es within = absurd (omega (arith, el))
  each-sink i (x ∷ berths) (l ∷ lanes) [] inboxes sinks d s el er ei es within = absurd (omega (arith, er))
  each-sink i (x ∷ berths) (l ∷ lanes) (r ∷ rows) [] sinks d s el er ei es within = absurd (omega (arith, ei))
  each-sink i (x ∷ berths) (l ∷ lanes) (r ∷ rows) (j ∷ inboxes) [] d s el er ei es within = absurd (omega (arith, es))
  each-sink zero (x ∷ berths) (l ∷ lanes) (r ∷ rows) (j ∷ inboxes) (k ∷ sinks) d s el er ei es within = refl
  each-sink (suc i) (x ∷ berths) (l ∷ lanes) (r ∷ rows) (j ∷ inboxes) (k ∷ sinks) d s el er ei es within =
      each-sink i berths lanes rows inboxes sinks d s (omega (arith, el)) (omega (arith, er)) (omega (arith, ei)) (omega (arith, es)) (omega (arith, within))

module _ {S D : Type 0} where
  pub heads-step : (berths0 berths : List (Berth S D)) (b : Berth S D) (done done' all : List Headed) → berths0 ≡ berths ++ b ∷ [] → done' ≡ done ++ headed_of b ∷ []
      → map headed_of berths0 ++ reverse done ≡ all → map headed_of berths ++ reverse done' ≡ all
  heads-step berths0 berths b done done' all popped more is =
      ap (λ (xs : List Headed). map headed_of berths ++ reverse xs) more
      ∙ turned (map headed_of berths) done all (headed_of b) (ap (λ (xs : List Headed). xs ++ reverse done) (sym (ap (map headed_of) popped ∙ map-append headed_of berths (b ∷ []))) ∙ is)

  pub all-heads : (berths : List (Berth S D)) (done all : List Headed) → berths ≡ [] → map headed_of berths ++ reverse done ≡ all → reverse done ≡ all
  all-heads [] done all none is = is
  all-heads (b ∷ berths) done all none is = cc none

-- ---- what the loop keeps

-- What is left of each list, and what is put together so far, the last first.
pub record IsAssembled {S D O : Type 0} (berths0 : List (Berth S D)) (lanes0 : List Lane) (rows0 : List Row) (inboxes0 : List Inbox) (sinks0 : List O) (berths : List (Berth S D)) (lanes : List Lane) (rows : List Row) (inboxes : List Inbox) (sinks : List O) (stations : List (Station S D O)) (heads : List Headed) : Type 0 where
  pub first : AreAlike berths0 lanes0 rows0 inboxes0 sinks0
  pub alike : AreAlike berths lanes rows inboxes sinks
  pub stations_are : stations_of berths lanes rows inboxes (drop 1 sinks) ++ reverse stations ≡ stations_of berths0 lanes0 rows0 inboxes0 (drop 1 sinks0)
  pub heads_are : map headed_of berths ++ reverse heads ≡ map headed_of berths0
  pub client : (d : O) → get_or sinks 0 d ≡ get_or sinks0 0 d

one-less : {A B : Type 0} (xs0 xs : List A) (ys0 ys : List B) (x : A) (y : B) (n : ℕ) → xs0 ≡ xs ++ x ∷ [] → ys0 ≡ ys ++ y ∷ [] → length xs0 ≡ length ys0 + n → length xs ≡ length ys + n
one-less xs0 xs ys0 ys x y n ex ey same = omega (arith, ap length ex, ap length ey, length-append xs (x ∷ []), length-append ys (y ∷ []), same)

same-less : {A B : Type 0} (xs0 xs : List A) (ys0 ys : List B) (x : A) (y : B) → xs0 ≡ xs ++ x ∷ [] → ys0 ≡ ys ++ y ∷ [] → length xs0 ≡ length ys0 → length xs ≡ length ys
same-less xs0 xs ys0 ys x y ex ey same = omega (arith, ap length ex, ap length ey, length-append xs (x ∷ []), length-append ys (y ∷ []), same)

module _ {S D O : Type 0} where
  pub assembled-first : (members : ℕ) (wires : Wires) (berths : List (Berth S D)) (lanes : List Lane) (rows : List Row) (inboxes : List Inbox) (sinks : List O) (row : Row) (inbox : Inbox) (stations : List (Station S D O)) (heads : List Headed)
      → AreFresh members wires → wires.rows.items ≡ rows ++ row ∷ [] → wires.inboxes.items ≡ inboxes ++ inbox ∷ [] → length berths ≡ members → length lanes ≡ members → length sinks ≡ members + 1 → stations ≡ [] → heads ≡ []
      → IsAssembled berths lanes rows inboxes sinks berths lanes rows inboxes sinks stations heads
  assembled-first members wires berths lanes rows inboxes sinks row inbox stations heads fresh rows-popped inboxes-popped berths-many lanes-many sinks-many no-stations no-heads =
      let alike : AreAlike berths lanes rows inboxes sinks =
      record {
        lanes_are = omega (arith, berths-many, lanes-many);
        rows_are = omega (arith, rows-many members wires fresh, ap length rows-popped, length-append rows (row ∷ []), berths-many);
        inboxes_are = omega (arith, fresh.many, ap length inboxes-popped, length-append inboxes (inbox ∷ []), berths-many);
        sinks_are = omega (arith, berths-many, sinks-many);
      } in
      record {
        first = alike;
        alike = alike;
        stations_are = none-turned (stations_of berths lanes rows inboxes (drop 1 sinks)) stations no-stations;
        heads_are = none-turned (map headed_of berths) heads no-heads;
        client = λ (d : O). refl;
      }

  pub assembled-next : (berths0 : List (Berth S D)) (lanes0 : List Lane) (rows0 : List Row) (inboxes0 : List Inbox) (sinks0 : List O) (berths berths' : List (Berth S D)) (lanes lanes' : List Lane) (rows rows' : List Row) (inboxes inboxes' : List Inbox) (sinks sinks' : List O) (b : Berth S D) (lane : Lane) (row : Row) (inbox : Inbox) (sink : O)
      (stations stations' : List (Station S D O)) (heads heads' : List Headed)
      → IsAssembled berths0 lanes0 rows0 inboxes0 sinks0 berths lanes rows inboxes sinks stations heads
      → berths ≡ berths' ++ b ∷ [] → lanes ≡ lanes' ++ lane ∷ [] → rows ≡ rows' ++ row ∷ [] → inboxes ≡ inboxes' ++ inbox ∷ [] → sinks ≡ sinks' ++ sink ∷ []
      → stations' ≡ stations ++ station_of b lane row inbox sink ∷ [] → heads' ≡ heads ++ headed_of b ∷ []
      → IsAssembled berths0 lanes0 rows0 inboxes0 sinks0 berths' lanes' rows' inboxes' sinks' stations' heads'
  assembled-next berths0 lanes0 rows0 inboxes0 sinks0 berths berths' lanes lanes' rows rows' inboxes inboxes' sinks sinks' b lane row inbox sink stations stations' heads heads' was eb el er ei es more-stations more-heads =
      let popped : ArePopped berths berths' lanes lanes' rows rows' inboxes inboxes' sinks sinks' b lane row inbox sink = record { berths_are = eb; lanes_are = el; rows_are = er; inboxes_are = ei; sinks_are = es } in
      let alike : AreAlike berths' lanes' rows' inboxes' sinks' =
      record {
        lanes_are = same-less lanes lanes' berths berths' lane b el eb was.alike.lanes_are;
        rows_are = same-less rows rows' berths berths' row b er eb was.alike.rows_are;
        inboxes_are = same-less inboxes inboxes' berths berths' inbox b ei eb was.alike.inboxes_are;
        sinks_are = one-less sinks sinks' berths berths' sink b 1 es eb was.alike.sinks_are;
      } in
      record {
        first = was.first;
        alike = alike;
        stations_are = stations-step berths berths' lanes lanes' rows rows' inboxes inboxes' sinks sinks' b lane row inbox sink stations stations' (stations_of berths0 lanes0 rows0 inboxes0 (drop 1 sinks0)) popped alike more-stations was.stations_are;
        heads_are = heads-step berths berths' b heads heads' (map headed_of berths0) eb more-heads was.heads_are;
        client = λ (d : O). first-stays (length berths') sinks sinks' sink d es alike.sinks_are ∙ was.client d;
      }

  pub assembled-all : (berths0 : List (Berth S D)) (lanes0 : List Lane) (rows0 : List Row) (inboxes0 : List Inbox) (sinks0 : List O) (berths : List (Berth S D)) (lanes : List Lane) (rows : List Row) (inboxes : List Inbox) (sinks : List O) (stations : List (Station S D O)) (heads : List Headed)
      → IsAssembled berths0 lanes0 rows0 inboxes0 sinks0 berths lanes rows inboxes sinks stations heads → berths ≡ []
      → (reverse stations ≡ stations_of berths0 lanes0 rows0 inboxes0 (drop 1 sinks0)) × (reverse heads ≡ map headed_of berths0)
  assembled-all berths0 lanes0 rows0 inboxes0 sinks0 berths lanes rows inboxes sinks stations heads is none = (
    all-stations berths lanes rows inboxes (drop 1 sinks) stations (stations_of berths0 lanes0 rows0 inboxes0 (drop 1 sinks0)) none is.stations_are,
    all-heads berths heads (map headed_of berths0) none is.heads_are,
  )

  pub client-is : (berths0 : List (Berth S D)) (lanes0 : List Lane) (rows0 : List Row) (inboxes0 : List Inbox) (sinks0 : List O) (berths : List (Berth S D)) (lanes : List Lane) (rows : List Row) (inboxes : List Inbox) (sinks rest : List O) (sink : O) (stations : List (Station S D O)) (heads : List Headed)
      → IsAssembled berths0 lanes0 rows0 inboxes0 sinks0 berths lanes rows inboxes sinks stations heads → berths ≡ [] → sinks ≡ rest ++ sink ∷ [] → (d : O) → sink ≡ get_or sinks0 0 d
  client-is berths0 lanes0 rows0 inboxes0 sinks0 berths lanes rows inboxes sinks rest sink stations heads is none popped d =
      only-sink sinks rest sink d popped (omega (arith, is.alike.sinks_are, ap length none)) ∙ is.client d

-- the store and the sink of each, in a list of them
module _ {S D O : Type 0} (berths : List (Berth S D)) (lanes : List Lane) (rows : List Row) (inboxes : List Inbox) (sinks : List O) (stations : List (Station S D O))
    (stations_are : stations ≡ stations_of berths lanes rows inboxes (drop 1 sinks)) (alike : AreAlike berths lanes rows inboxes sinks) where
  pub store-is : (i : ℕ) (b : Berth S D) (d : Station S D O) → i < length berths → (get_or stations i d).store ≡ (get_or berths i b).store
  store-is i b d within =
      ap (λ (xs : List (Station S D O)). (get_or xs i d).store) stations_are
      ∙ each-store i berths lanes rows inboxes (drop 1 sinks) b d alike.lanes_are alike.rows_are alike.inboxes_are (drop-length (length berths) sinks alike.sinks_are) within

  pub sink-is : (i : ℕ) (o : O) (d : Station S D O) → i < length berths → (get_or stations i d).sink ≡ get_or sinks (i + 1) o
  sink-is i o d within =
      ap (λ (xs : List (Station S D O)). (get_or xs i d).sink) stations_are
      ∙ each-sink i berths lanes rows inboxes (drop 1 sinks) o d alike.lanes_are alike.rows_are alike.inboxes_are (drop-length (length berths) sinks alike.sinks_are) within
      ∙ sink-behind i sinks o

-- ---- a crew

module _ {S D O : Type 0} (m : Meaning S) (told : Type 0) (cells : D → Cells) (written : O → Option (List ℕ)) (images : ℕ → Images) (s : GroupSettings) where
  one-fit : (number : ℕ) (b : Berth S D) (lane : Lane) (row : Row) (inbox : Inbox) (sink : O) → IsBerth m told cells (images number) (member_settings s number) b → AreFreshLanes lane
      → HasHead written b.head b.entries sink → IsFit m told cells written (images number) s number (headed_of b) (station_of b lane row inbox sink)
  one-fit number b lane row inbox sink is fresh text = record {
    number = ap (λ (x : Settings). x.member) is.settings_are;
    kept = is.kept;
    restored = is.restored;
    whole = is.whole;
    other = is.other;
    node = is.node;
    unbroken = is.unbroken;
    counts = subst (λ (k : ℕ). KeepsCounts k b.core.node) (sym is.restored_are) is.counts;
    restored_are = is.restored_are;
    opened = is.opened;
    opens = is.opens;
    head = (is.head_is, is.entries_are);
    lane = fresh.lane;
    none_put = fresh.none_put;
    room = fresh.room;
    none_taken = fresh.none_taken;
    text = text;
  }

  all-fit : (first : ℕ) (berths : List (Berth S D)) (lanes : List Lane) (rows : List Row) (inboxes : List Inbox) (sinks : List O) → length lanes ≡ length berths → length rows ≡ length berths → length inboxes ≡ length berths → length sinks ≡ length berths
      → AreBerths m told cells images s first berths → Each AreFreshLanes lanes → HaveHeads written berths sinks
      → AreFit m told cells written images s first (map headed_of berths) (stations_of berths lanes rows inboxes sinks)
  all-fit first [] lanes rows inboxes sinks el er ei es all fresh heads = tt
  all-fit first (x ∷ berths) [] rows inboxes sinks el er ei es all fresh heads = absurd (omega (arith, el))
  all-fit first (x ∷ berths) (l ∷ lanes) [] inboxes sinks el er ei es all fresh heads = absurd (omega (arith, er))
  all-fit first (x ∷ berths) (l ∷ lanes) (r ∷ rows) [] sinks el er ei es all fresh heads = absurd (omega (arith, ei))
  all-fit first (x ∷ berths) (l ∷ lanes) (r ∷ rows) (i ∷ inboxes) [] el er ei es all fresh heads = absurd (omega (arith, es))
  all-fit first (x ∷ berths) (l ∷ lanes) (r ∷ rows) (i ∷ inboxes) (k ∷ sinks) el er ei es all fresh heads = (
    one-fit first x l r i k all.0 fresh.0 heads.0,
    all-fit (suc first) berths lanes rows inboxes sinks (omega (arith, el)) (omega (arith, er)) (omega (arith, ei)) (omega (arith, es)) all.1 fresh.1 heads.1,
  )

  first-text : (client : TrailOpening) (berths : List (Berth S D)) (sinks : List O) (sink : O) → ((d : O) → sink ≡ get_or sinks 0 d) → client ≡ client_head s → HasHeads written s client berths sinks
      → HasHead written (client_head s) [] sink
  first-text client berths [] sink is head heads = absurd heads
  first-text client berths (k ∷ sinks) sink is head heads =
      subst (λ (h : TrailOpening). HasHead written h [] sink) head (subst (HasHead written client []) (sym (is sink)) heads.0)

  other-texts : (client : TrailOpening) (berths : List (Berth S D)) (sinks : List O) → HasHeads written s client berths sinks → HaveHeads written berths (drop 1 sinks)
  other-texts client berths [] heads = absurd heads
  other-texts client berths (k ∷ sinks) heads = heads.1

  module _ (client : TrailOpening) (berths : List (Berth S D)) (sinks : List O) (lanes : List Lane) (wires : Wires) (rows : List Row) (inboxes : List Inbox) (crew : Crew S D O)
      (stations_are : crew.stations.items ≡ stations_of berths lanes rows inboxes (drop 1 sinks)) (heads_are : crew.heads.items ≡ map headed_of berths)
      (rows_are : wires.rows.items ≡ rows ++ crew.client.row ∷ []) (inboxes_are : wires.inboxes.items ≡ inboxes ++ crew.client.inbox ∷ []) (sink_is : (d : O) → crew.client.sink ≡ get_or sinks 0 d)
      (alike : AreAlike berths lanes rows inboxes sinks) (many : length berths ≡ s.members) where
    rest-many : length (drop 1 sinks) ≡ length berths
    rest-many = drop-length (length berths) sinks alike.sinks_are

    all-rows : rows_of crew ≡ wires.rows.items
    all-rows =
        ap (λ (xs : List (Station S D O)). map (λ (b : Station S D O). b.row) xs ++ crew.client.row ∷ []) stations_are
        ∙ ap (λ (xs : List Row). xs ++ crew.client.row ∷ []) (rows-are berths lanes rows inboxes (drop 1 sinks) alike.lanes_are alike.rows_are alike.inboxes_are rest-many)
        ∙ sym rows_are

    all-inboxes : inboxes_of crew ≡ wires.inboxes.items
    all-inboxes =
        ap (λ (xs : List (Station S D O)). map (λ (b : Station S D O). b.inbox) xs ++ crew.client.inbox ∷ []) stations_are
        ∙ ap (λ (xs : List Inbox). xs ++ crew.client.inbox ∷ []) (inboxes-are berths lanes rows inboxes (drop 1 sinks) alike.lanes_are alike.rows_are alike.inboxes_are rest-many)
        ∙ sym inboxes_are

    pub is-crew : client ≡ client_head s → Each AreFreshLanes lanes → AreFresh s.members wires → AreBerths m told cells images s 1 berths → HasHeads written s client berths sinks → IsCrew m told cells written images s crew
    is-crew head fresh wired all heads = record {
      many = ap length stations_are ∙ as-many berths lanes rows inboxes (drop 1 sinks) alike.lanes_are alike.rows_are alike.inboxes_are rest-many ∙ many;
      fit = subst (λ (xs : List Headed). AreFit m told cells written images s 1 xs crew.stations.items) (sym heads_are)
          (subst (λ (xs : List (Station S D O)). AreFit m told cells written images s 1 (map headed_of berths) xs) (sym stations_are)
          (all-fit 1 berths lanes rows inboxes (drop 1 sinks) alike.lanes_are alike.rows_are alike.inboxes_are rest-many all fresh (other-texts client berths sinks heads)));
      client = first-text client berths sinks crew.client.sink sink_is head heads;
      receivers_are = ap row_ends all-rows ∙ wired.ends_are;
      dealt = subst (λ (xs : List Row). AreDealt xs (inboxes_of crew)) (sym all-rows) (subst (λ (xs : List Inbox). AreDealt wires.rows.items xs) (sym all-inboxes) wired.dealt);
    }
