use Rattle.std.proofs.Common.{◌∙◌}
use Rattle.first_come.specs.Stepping.{enter_checks}
use Rattle.first_come.proofs.line.FirstCome.check_enter.Goals as goal

pub returns : goal.returns
returns c =
    c.check_room.ensures
    ∙ enter_checks c.args.self.now c.args.session c.args.length c.in_ok-check_length.field-0 c.in_ok-check_length.ensures
