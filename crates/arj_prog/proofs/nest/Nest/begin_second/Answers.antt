-- The innermost comes last in the vector.
use Rattle.std.proofs.Common.{◌≡◌, ◌+◌, ◌-◌, length, sym, ◌∙◌, ap, refl, arith}
use Rattle.std.specs.Prelude.{reverse, slice_set}
use Rattle.arj_prog.specs.Nesting.{in_second}
use Rattle.arj_prog.proofs.Nests.{no_more, none_second, second_last}
use Rattle.arj_prog.proofs.nest.Nest.begin_second.Goals.{in-Some, in_default}
use Rattle.arj_prog.proofs.nest.Nest.begin_second.Goals as goal

pub returns : goal.returns
returns c =
    let fs = c.self.inside.frames.items in
    let n = c.self.inside.frames.len - 1 in
    let list = c.args.first in
    let kept = c.self.inside.frames.ok.0 in
    elim c.match-last_mut.branch [
      | in-Some w ↦
          let f = w.in-Some.frame.now in
          let some = w.in-Some.ensures.variant.0 refl in
          let long : length fs ≡ n + 1 = omega (arith, kept, some) in
          ap (λ s. reverse s.frames.items) w.self-inside-is
          ∙ (ap (λ what. reverse (slice_set fs n (record { before = f.before; opened = what }))) w.put_first.ensures
          ∙ (second_last fs n list f long w.in-Some.ensures.value ∙ ap (in_second list) c.self.view_is))
      | in_default w ↦
          ap (λ s. reverse s.frames.items) w.self-inside-is
          ∙ (none_second fs list (sym kept ∙ no_more c.self.inside.frames.len w.in_default.ensures.variant.1) ∙ ap (in_second list) c.self.view_is)
    ]
