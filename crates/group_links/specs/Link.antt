-- What a clause sees of the two ends of a link.
use Rattle.std.specs.Prelude.{◌≡◌, ◌⊎◌, ℕ, List, [], ◌∷◌, ◌++◌, ◌≤◌, ◌+◌, ◌^◌, length}
use Rattle.atomic_table.specs.Seated.{TableId}
use Rattle.queue_ends.specs.Ends.{put_list, heard_taken, taken_list, heard_put, put_queue, take_queue}
use Rattle.group_links.specs.declared.inward.LinkIn.{LinkIn}
use Rattle.group_links.specs.declared.outward.LinkOut.{LinkOut}
use Rattle.group_links.specs.declared.inward.Sending.{Sending}
use Rattle.group_links.specs.declared.inward.Sending.TheVariants.{Sent, Dropped}

module _ {T : Type 0} where
  -- the messages put on the link, and those that the sending end has heard were taken
  abbrev pub link_put : LinkIn T → List T
  link_put l = put_list l.items

  abbrev pub link_heard_taken : LinkIn T → List T
  link_heard_taken l = heard_taken l.items

  abbrev pub link_capacity : LinkIn T → ℕ
  link_capacity l = l.capacity

  -- the messages taken from the link, and those that the polling end has heard were put
  abbrev pub link_taken : LinkOut T → List T
  link_taken l = taken_list l.items

  abbrev pub link_heard_put : LinkOut T → List T
  link_heard_put l = heard_put l.items

  -- which link it is
  abbrev pub in_link : LinkIn T → TableId
  in_link l = put_queue l.items

  abbrev pub out_link : LinkOut T → TableId
  out_link l = take_queue l.items

  -- as many messages were put as were heard to be taken and as the link has room for, or as a link ever carries
  abbrev pub IsFull : LinkIn T → Type 0
  IsFull l = (length (link_heard_taken l) + link_capacity l ≤ length (link_put l)) ⊎ (2 ^ 62 ≤ length (link_put l))

  -- the message joins those that were put; or it comes back, and the link was full
  abbrev pub IsSent : LinkIn T → T → Sending T → LinkIn T → Type 0
  IsSent old message Sent new = link_put new ≡ link_put old ++ message ∷ []
  IsSent old message (Dropped back) new = (back ≡ message) × (link_put new ≡ link_put old) × IsFull old
