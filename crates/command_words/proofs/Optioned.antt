-- A command to which options are added, one after the other.
use Rattle.std.proofs.Common.{◌≡◌, ◌∙◌, ap, codes}
use Rattle.clap.specs.Words.{Rule, Shape}
use Rattle.clap.specs.Simple.{new_shape}
use Rattle.command_words.specs.Options.{group_shape, needed_rule, node_shape, option_rule, with_option}

one-more : (s t : Shape) (r q : Rule) → s ≡ t → r ≡ q → with_option s r ≡ with_option t q
one-more s t r q same rule = ap (λ x. with_option x r) same ∙ ap (λ x. with_option t x) rule

pub five_options : (first s1 s2 s3 s4 s5 : Shape) (r1 r2 r3 r4 r5 : Rule) → first ≡ new_shape (codes "node")
    → s1 ≡ with_option first r1 → r1 ≡ needed_rule (codes "id")
    → s2 ≡ with_option s1 r2 → r2 ≡ needed_rule (codes "dir")
    → s3 ≡ with_option s2 r3 → r3 ≡ needed_rule (codes "secret")
    → s4 ≡ with_option s3 r4 → r4 ≡ needed_rule (codes "group")
    → s5 ≡ with_option s4 r5 → r5 ≡ option_rule (codes "period")
    → s5 ≡ node_shape
five_options first s1 s2 s3 s4 s5 r1 r2 r3 r4 r5 e a1 b1 a2 b2 a3 b3 a4 b4 a5 b5 =
    a5 ∙ one-more s4 _ r5 _ (a4 ∙ one-more s3 _ r4 _ (a3 ∙ one-more s2 _ r3 _ (a2 ∙ one-more s1 _ r2 _ (a1 ∙ one-more first _ r1 _ e b1) b2) b3) b4) b5

pub six_options : (first s1 s2 s3 s4 s5 s6 : Shape) (r1 r2 r3 r4 r5 r6 : Rule) → first ≡ new_shape (codes "group")
    → s1 ≡ with_option first r1 → r1 ≡ needed_rule (codes "n")
    → s2 ≡ with_option s1 r2 → r2 ≡ needed_rule (codes "f")
    → s3 ≡ with_option s2 r3 → r3 ≡ needed_rule (codes "period")
    → s4 ≡ with_option s3 r4 → r4 ≡ needed_rule (codes "turns")
    → s5 ≡ with_option s4 r5 → r5 ≡ needed_rule (codes "asks")
    → s6 ≡ with_option s5 r6 → r6 ≡ needed_rule (codes "dir")
    → s6 ≡ group_shape
six_options first s1 s2 s3 s4 s5 s6 r1 r2 r3 r4 r5 r6 e a1 b1 a2 b2 a3 b3 a4 b4 a5 b5 a6 b6 =
    a6 ∙ one-more s5 _ r6 _ (a5 ∙ one-more s4 _ r5 _ (a4 ∙ one-more s3 _ r4 _ (a3 ∙ one-more s2 _ r3 _ (a2 ∙ one-more s1 _ r2 _ (a1 ∙ one-more first _ r1 _ e b1) b2) b3) b4) b5) b6
