use Rattle.std.proofs.Common.{◌≡◌, ℕ, ◌++◌, length, take, drop, replicate, ap, ◌∙◌, arith}
use Rattle.std.proofs.lemmas.List.{length-take}
use Rattle.self_clocked.proofs.line.preview.clear_scratch.Goals as goal

pub returns : goal.returns
returns c =
    let scratch = c.args.scratch.now in
    let long : length (take 256 scratch) ≡ 256 = omega (arith, length-take 256 scratch) in
    let cleared : c.fill.new.self ≡ replicate {A = ℕ} 256 0 = c.fill.ensures.after (λ y same. same) ∙ ap (λ n. replicate n 0) long in
    ap (λ front. front ++ drop 256 scratch) cleared
