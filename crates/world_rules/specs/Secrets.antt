-- What every group that a script plays has: its secret.
use Rattle.std.specs.Prelude.{ℕ, List, codes}

-- the secret: five bytes that all members and clients hold
unfoldable pub group_secret : List ℕ
group_secret = codes "world"
