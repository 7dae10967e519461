-- Which snapshot a member that lags takes over, and from whom (collaborative state transfer: Dura-SMaRt, USENIX ATC 2013).
-- Signed marks, and the choice among places, are this project's own rule.
use Rattle.std.specs.Prelude.{◌≡◌, ◌≢◌, ◌⊎◌, ℕ, ◌+◌, ◌==◌, ◌<◌, ◌≤◌, nat_lt, Bool, true, false, ◌&&◌, List, [], ◌∷◌, ◌++◌, length, take, filter, find, filter_map, if◌then◌else◌, Option, Some, None, Result, Ok, Err}
use Rattle.std.specs.List.{list_any, flat_map}
use Rattle.std.specs.declared.cmp.Ordering.TheVariants.{Greater}
use Rattle.smart_base.specs.Lists.{Each}
use Rattle.smart_base.specs.Views.{View}
use Rattle.smart_statements.specs.Forms.{SignedBy}
use Rattle.smart_statements.specs.Reports.{marks}
use Rattle.smart_statements.specs.declared.report.Mark.{Mark}
use Rattle.state_marks.specs.Tables.{byte_order, is_mark_of, has_marked, certified, AreEnough}
use Rattle.replica_rules.specs.Seals.{is_verified}
use Rattle.transfer_form.specs.declared.transfer.StateOffer.{StateOffer}
use Rattle.state_transfer.specs.declared.choice.NotYet.{NotYet}
use Rattle.state_transfer.specs.declared.choice.Plan.{Plan}
use Rattle.state_transfer.specs.declared.choice.PlanError.{PlanError}
use Rattle.state_transfer.specs.declared.choice.PlanError.TheVariants as errors
use Rattle.state_transfer.specs.declared.choice.Seeder.{Seeder}

-- ---- the marks that count

-- an offer without the marks whose tags do not verify
abbrev pub verified_offer : List ℕ → StateOffer → StateOffer
verified_offer secret o = record { member = o.member; place = o.place; size = o.size; marks = filter (is_verified marks secret) o.marks }

-- a place past the asker's that some offer has
abbrev pub is_offered : List StateOffer → ℕ → ℕ → Bool
is_offered offers place k = nat_lt place k && list_any (λ (o : StateOffer). o.place == k) offers

-- a mark of such a place
abbrev pub counts : List StateOffer → ℕ → SignedBy Mark → Bool
counts offers place m = is_offered offers place m.statement.place

-- the marks that count: first those that the asker kept, then those in its offers
unfoldable pub usable : List StateOffer → List (SignedBy Mark) → ℕ → List (SignedBy Mark)
usable offers kept place =
    filter (counts offers place) kept ++ flat_map (λ (o : StateOffer). filter (counts offers place) o.marks) offers

-- all marks that the asker has
abbrev pub all_marks : List StateOffer → List (SignedBy Mark) → List (SignedBy Mark)
all_marks offers kept = kept ++ flat_map (λ (o : StateOffer). o.marks) offers

-- ---- how far the asker is

-- how many members of a view marked the same
abbrev pub agreed : View → List (SignedBy Mark) → Mark → ℕ
agreed v table mark = length (filter (has_marked table mark) v.members)

abbrev pub greater : ℕ → ℕ → ℕ
greater found count = if nat_lt found count then count else found

-- the greatest of a number and of how many marked each of the marks left
abbrev pub most_of : View → List (SignedBy Mark) → ℕ → List (SignedBy Mark) → ℕ
most_of v table found [] = found
most_of v table found (m ∷ left) = most_of v table (greater found (agreed v table m.statement)) left

-- how many members of a view marked the same, at most
unfoldable pub most : View → List (SignedBy Mark) → ℕ
most v table = most_of v table 0 table

-- what an asker is told that has no plan: the most equal marks, and how many a plan needs
abbrev pub not_yet : View → List (SignedBy Mark) → NotYet
not_yet v table = record { agreeing = most v table; need = v.f + 1 }

-- ---- the certificate, and who gives the snapshot

-- a member's first mark of a digest at a place
abbrev pub first_mark : List (SignedBy Mark) → Mark → ℕ → Option (SignedBy Mark)
first_mark table wanted member = find (is_mark_of wanted member) table

-- the marks of the first members by number, one more than may be faulty
unfoldable pub certificate : View → List (SignedBy Mark) → Mark → List (SignedBy Mark)
certificate v table wanted = take (v.f + 1) (filter_map (first_mark table wanted) v.members)

-- an offer of a place whose member goes before the one found
abbrev pub goes_before : ℕ → Option Seeder → StateOffer → Bool
goes_before place None o = o.place == place
goes_before place (Some s) o = (o.place == place) && nat_lt o.member s.member

-- who is found after one more offer
abbrev pub lower : ℕ → Option Seeder → StateOffer → Option Seeder
lower place found o = if goes_before place found o then Some (record { member = o.member; size = o.size }) else found

-- who is found after the offers left
abbrev pub lowest : ℕ → Option Seeder → List StateOffer → Option Seeder
lowest place found [] = found
lowest place found (o ∷ left) = lowest place (lower place found o) left

-- the seeder of a place: the lowest member that offers it, with the size that it states
unfoldable pub seeder_of : ℕ → List StateOffer → Option Seeder
seeder_of place offers = lowest place None offers

-- ---- the plan

abbrev pub mark_of : ℕ × List ℕ → Mark
mark_of found = record { place = found.0; digest = found.1 }

-- the plan for a certified place and digest, by its seeder
abbrev pub seeded : View → List (SignedBy Mark) → ℕ × List ℕ → Option Seeder → Result Plan NotYet
seeded v table found None = Err (not_yet v table)
seeded v table found (Some s) =
    Ok (record { place = found.0; digest = found.1; view = v.number; marks = certificate v table (mark_of found); seeder = s.member; size = s.size })

-- the plan, by what is certified
abbrev pub planned_by : List StateOffer → View → List (SignedBy Mark) → Option (ℕ × List ℕ) → Result Plan NotYet
planned_by offers v table None = Err (not_yet v table)
planned_by offers v table (Some found) = seeded v table found (seeder_of found.0 offers)

-- The plan of an asker at a place, by its newest view. It takes the greatest offered place that more members than may be faulty marked alike, and
-- of two digests there the lower.
unfoldable pub planned : List StateOffer → List (SignedBy Mark) → ℕ → View → Result Plan NotYet
planned offers kept place v = planned_by offers v (usable offers kept place) (certified v (usable offers kept place))

-- What `plan` answers. Want of memory is allowed.
abbrev pub Plans : Result Plan PlanError → Result Plan NotYet → Type 0
Plans (Ok p) said = said ≡ Ok p
Plans (Err errors.NoMemory) said = Unit {0}
Plans (Err (errors.NotYet why)) said = said ≡ Err why

-- ---- what a plan is

-- An offer of a place stands among others, and none of that place is of a lower member.
pub record IsSeeder (offers : List StateOffer) (place member size : ℕ) : Type 0 where
  pub front : List StateOffer
  pub offer : StateOffer
  pub back : List StateOffer
  pub split : offers ≡ front ++ offer ∷ back
  pub place_is : offer.place ≡ place
  pub member_is : offer.member ≡ member
  pub size_is : offer.size ≡ size
  pub least : list_any (λ (o : StateOffer). (o.place == place) && nat_lt o.member member) offers ≡ false

-- A plan of an asker at a place: what enough members of the view marked alike at an offered place past the asker's. No such place is greater,
-- and no such digest there is lower. Its marks are the first that count, by member.
pub record IsPlan (offers : List StateOffer) (kept : List (SignedBy Mark)) (place : ℕ) (v : View) (p : Plan) : Type 0 where
  pub offered : is_offered offers place p.place ≡ true
  pub enough : AreEnough v (all_marks offers kept) p.place p.digest
  pub greatest : (k : ℕ) (digest : List ℕ) → is_offered offers place k ≡ true → AreEnough v (all_marks offers kept) k digest → k ≤ p.place
  pub lowest : (digest : List ℕ) → AreEnough v (all_marks offers kept) p.place digest → byte_order p.digest digest ≢ Greater
  pub view_is : p.view ≡ v.number
  pub marks_are : p.marks ≡ certificate v (usable offers kept place) (mark_of (p.place, p.digest))
  pub seeder : IsSeeder offers p.place p.seeder p.size

-- Why there is no plan: no mark of a table is that of more members, one is that of so many, and a plan needs more.
pub record IsNotYet (v : View) (table : List (SignedBy Mark)) (n : NotYet) : Type 0 where
  pub need_is : n.need ≡ v.f + 1
  pub few : n.agreeing < n.need
  pub most : Each (λ (m : SignedBy Mark). agreed v table m.statement ≤ n.agreeing) table
  pub reached : (n.agreeing ≡ 0) ⊎ (list_any (λ (m : SignedBy Mark). agreed v table m.statement == n.agreeing) table ≡ true)
