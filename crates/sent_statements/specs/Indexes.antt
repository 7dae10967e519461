-- An index of the statements that members have sent.
use Rattle.std.specs.Prelude.{◌≡◌, Bool, ◌&&◌, nat_eq}
use Rattle.std.specs.Cmp.Lexicographic.{pointwise}
use Rattle.smart_base.specs.declared.party.Party.TheVariants.{Member}
use Rattle.smart_messages.specs.declared.message.Sealed.{Sealed}
use Rattle.sent_statements.specs.declared.made.Made.{Made}

-- a statement as the index keeps it
abbrev pub made_sealed : Made → Sealed
made_sealed m = record { who = Member m.member; text = m.text.items; tag = m.tag.items }

-- what `==` returns
abbrev pub same_made : Made → Made → Bool
same_made a b = nat_eq a.member b.member && (pointwise nat_eq a.text.items b.text.items && pointwise nat_eq a.tag.items b.tag.items)

-- An index has a member's statement if and only if it was sent.
pub record IsIndex (has : Made → Bool) (sent : Sealed → Bool) : Type 0 where
  pub exact : (m : Made) → has m ≡ sent (made_sealed m)
