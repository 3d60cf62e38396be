use Rattle.std.proofs.Common.{◌≡◌, subst, arith}
use Rattle.sessions.specs.Meanings.{meaning_of}
use Rattle.self_clocked.proofs.Previewing.{FirstsBelow, firsts_all}
use Rattle.self_clocked.proofs.line.preview.ready_firsts.Goals as goal

pub returns : goal.returns
returns c =
    let tags = c.loop-session.ready.tags in
    let m = meaning_of c.args.sessions.now in
    let end : c.loop-session.session ≡ 64 = omega (arith, c.loop-session.auto.session-end, c.loop-session-test.false) in
    firsts_all m tags (subst (λ n. FirstsBelow m n tags) end c.loop-session.invariant)
