-- Messages to receivers, counted.
use Rattle.std.specs.Prelude.{◌≡◌, ℕ, ◌&&◌, Bool, nat_eq, List, map, Option, Some, None}
use Rattle.std.specs.Cmp.Lexicographic.{pointwise}
use Rattle.trail.specs.declared.event.TrailEvent.{TrailEvent}
use Rattle.trail_rules.specs.Replays.{came_by}
use Rattle.audit_rules.specs.Quiets.{Post, times}
use Rattle.trail_posts.specs.declared.posts.Posted.{Posted}

abbrev pub post_of : Posted → Post
post_of p = record { to = p.to; text = p.text.items }

-- what `==` returns
abbrev pub same_posted : Posted → Posted → Bool
same_posted a b = nat_eq a.to b.to && pointwise nat_eq a.text.items b.text.items

-- a message for each of several receivers
abbrev pub to_each : List ℕ → List ℕ → List Post
to_each text members = map (λ (r : ℕ). record { to = r; text = text }) members

-- the message that came to a trail's owner by an event, if one did
abbrev pub arrived_at : ℕ → TrailEvent → List Post
arrived_at member e = map (λ bytes. record { to = member; text = bytes }) (came_by e)

-- a count; 0 if there is none
abbrev pub count_or : Option ℕ → ℕ
count_or None = 0
count_or (Some n) = n

-- counts that say of each message how often it stands in others
pub record IsCount (count : Posted → ℕ) (posts : List Post) : Type 0 where
  pub exact : (p : Posted) → count p ≡ times (post_of p) posts
