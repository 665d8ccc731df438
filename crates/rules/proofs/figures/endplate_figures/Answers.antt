-- `figures::endplate_figures` meets its contract. Assumes nothing.
use Rattle.std.proofs.Common.{arith}
use Rattle.rules.specs.Figures.{endplate_figures}
use Rattle.rules.proofs.WithinLimits.{endplate_within}
use Rattle.rules.proofs.FiguresBounded.{endplate_stress_most, endplate_thickness_most}
use Rattle.rules.proofs.figures.endplate_figures.Goals as goal

pub endplate_thickness-thickness-requires : goal.endplate_thickness-thickness-requires
endplate_thickness-thickness-requires c =
    let s = c.args.s in
    omega (
      arith,
      endplate_within s c.requires.within,
      c.requires.worked,
      endplate_stress_most s.form s.material s.shell s.temperature,
    )

pub overflow_add-result : goal.overflow_add-result
overflow_add-result c =
    let s = c.args.s in
    let a = endplate_within s c.requires.within in
    omega (
      arith,
      c.from-2.ensures,
      c.endplate_thickness-thickness.ensures,
      endplate_thickness_most s.form {F = c.args.stress} (rw c.requires.worked a.stressed) a.pressure a.diameter,
    )

pub returns : goal.returns
unfolding endplate_figures
returns c = rw (c.from.ensures, c.from-2.ensures, c.endplate_thickness-thickness.ensures, c.requires.worked)
