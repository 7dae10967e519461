use Rattle.std.proofs.Common.{◌≡◌, ◌+◌, ◌++◌, ◌∷◌, ◌∙◌, drop, get_or, suc, ap, sym, arith}
use Rattle.std.specs.Prelude.{string_bytes, map}
use Rattle.std.proofs.Math.Seq.{drop-cons}
use Rattle.smart_chart.specs.Pictures.{rows_text}
use Rattle.smart_chart.proofs.picture.push_rows.Goals as goal

pub loop-at-preserved : goal.loop-at-preserved
loop-at-preserved c =
    let lines = c.args.lines.now in
    let i = c.loop-at.at in
    let one_more : suc i ≡ i + 1 = omega arith in
    let step : drop i lines ≡ c.index-lines-at.result ∷ drop (i + 1) lines =
    drop-cons lines i c.index-lines-at.result (omega (arith, c.loop-at-test.true))
    ∙ (ap (λ next. get_or lines i c.index-lines-at.result ∷ drop next lines) one_more ∙ ap (λ line. line ∷ drop (i + 1) lines) (sym c.index-lines-at.is)) in
    c.in_ok-push_next.ensures (map string_bytes (drop (i + 1) lines))
    ∙ (ap (λ left. string_bytes c.loop-at.out ++ rows_text c.args.first i (map string_bytes left)) (sym step) ∙ c.loop-at.invariant)
