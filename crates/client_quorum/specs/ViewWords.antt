-- What a client makes of members' statements of views: it takes over a view that enough of them have stated.
use Rattle.std.specs.Prelude.{ℕ, ◌+◌, ◌==◌, nat_lt, nat_le, Bool, not, ◌&&◌, List, [], ◌∷◌, ◌++◌, filter, if◌then◌else◌, Option, Some, None}
use Rattle.std.specs.List.{list_any}
use Rattle.smart_base.specs.Lists.{same_bytes}
use Rattle.smart_base.specs.Views.{View, weight_of, is_member, present}
use Rattle.smart_statements.specs.Forms.{SignedBy}
use Rattle.smart_messages.specs.Regencies.{view_infos}
use Rattle.smart_messages.specs.declared.regency.ViewInfo.{ViewInfo}
use Rattle.replica_rules.specs.Seals.{is_verified}
use Rattle.client_quorum.specs.declared.client.Client.{Client}
use Rattle.client_quorum.specs.declared.client.Ignored.{Ignored}
use Rattle.client_quorum.specs.declared.client.Ignored.TheVariants as reasons
use Rattle.client_quorum.specs.declared.client.Heard.{Heard}
use Rattle.client_quorum.specs.declared.client.Heard.TheVariants as hears

-- two views that are the same
abbrev pub same_view : View → View → Bool
same_view a b = (a.number == b.number) && (a.start == b.start) && (a.f == b.f) && same_bytes a.members b.members

-- a statement of a member, of a view whose number is a given one or a greater one
abbrev pub is_as_new : ℕ → ℕ → SignedBy ViewInfo → Bool
is_as_new member number k = (k.signer == member) && nat_le number k.statement.view.number

-- the first reason for which a client ignores a statement of a view
unfoldable pub why_untold : List ℕ → Client → SignedBy ViewInfo → Option Ignored
why_untold secret c i =
    if not (is_verified view_infos secret i) then Some reasons.BadTag
    else if nat_le i.statement.view.number (present c.views).number then Some reasons.OldView
    else if not (is_member (present c.views) i.signer) then Some reasons.Stranger
    else if list_any (is_as_new i.signer i.statement.view.number) c.infos then Some reasons.Repeated
    else None

-- statements of views with one more, in place of what its member stated before
abbrev pub with_info : List (SignedBy ViewInfo) → SignedBy ViewInfo → List (SignedBy ViewInfo)
with_info infos i = filter (λ k. not (k.signer == i.signer)) infos ++ i ∷ []

-- a member that stated a view
abbrev pub has_stated : List (SignedBy ViewInfo) → View → ℕ → Bool
has_stated infos view member = list_any (λ k. (k.signer == member) && same_view k.statement.view view) infos

-- the weight of a view's members that stated another view
abbrev pub stating : View → List (SignedBy ViewInfo) → View → ℕ
stating v infos view = weight_of v (filter (has_stated infos view) v.members)

-- What a client makes of a statement that counts. It takes over that view if more members of its present view than may be faulty have stated
-- it, this member among them.
abbrev pub count_told : Client → SignedBy ViewInfo → Heard
count_told c i =
    if nat_lt (present c.views).f (stating (present c.views) (with_info c.infos i) i.statement.view)
    then hears.Moved i.statement.view.number
    else hears.Viewed (stating (present c.views) (with_info c.infos i) i.statement.view) ((present c.views).f + 1)

-- what a client makes of a statement of a view, by the reason to ignore it
abbrev pub told_unless : Client → SignedBy ViewInfo → Option Ignored → Heard
told_unless c i (Some why) = hears.Ignored why
told_unless c i None = count_told c i

-- what a client makes of a statement of a view
unfoldable pub told : List ℕ → Client → SignedBy ViewInfo → Heard
told secret c i = told_unless c i (why_untold secret c i)

-- The client after it was told of a view. It keeps what members stated of later views: only a statement that arrives makes it take one over.
abbrev pub after_told : Client → SignedBy ViewInfo → Heard → Client
after_told c i (hears.Counted count need) = c
after_told c i (hears.Accepted acceptance) = c
after_told c i (hears.Viewed count need) = record c { infos = with_info c.infos i }
after_told c i (hears.Moved number) = record c { views = c.views ++ i.statement.view ∷ []; infos = with_info c.infos i }
after_told c i (hears.Ignored why) = c
