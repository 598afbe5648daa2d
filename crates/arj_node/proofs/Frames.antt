-- A frame that is got or void, and stops of it.
use Rattle.std.proofs.Common.{◌≡◌, ◌∙◌, ℕ, List, [], ◌∷◌, ◌++◌, refl, sym, ap, subst, Some}
use Rattle.std.proofs.lemmas.List.{append-nil}
use Rattle.arj_core.specs.declared.output.Output.{Output}
use Rattle.arj_core.specs.declared.output.Output.TheVariants as output
use Rattle.arj_core.specs.Steps.{PutsOut, Said, Sent, seen}
use Rattle.arj_node.specs.Goes.{Goes}
use Rattle.arj_node.specs.Handing.{Takes, Leaves, outs_of}
use Rattle.arj_node.specs.Outgoing.{IsHalted, effects_of, loud}
use Rattle.arj_node.specs.Ran.{IsCut, disk_after, outward}
use Rattle.arj_node.specs.Stepped.{Steps, up_node}
use Rattle.arj_node.specs.declared.outgoing.Outgoing.{Outgoing}
use Rattle.arj_node.proofs.Handled.{took_cut}
use Rattle.arj_node.proofs.Lists.{puts_more}
use Rattle.arj_node.proofs.Outs.{said_one}
use Rattle.arj_node.proofs.Quiet.{IsQuiet}
use Rattle.arj_protocol.specs.Ask.{frame_kind}
use Rattle.arj_protocol.specs.Effect.{Disk, Effect, Say, Send, Do}
use Rattle.arj_protocol.specs.Node.{Handled, Void, Took, Here, Parts, whole}
use Rattle.arj_protocol.specs.Step.{handled_step, void_step}
use Rattle.arj_protocol.specs.Words.{Body}
use Rattle.arj_protocol.specs.Words.body

loud_behind : (es fs : List Effect) → loud (es ++ fs) ≡ loud es ++ loud fs
loud_behind [] fs = refl
loud_behind (Say b ∷ es) fs = ap (λ rest. Say b ∷ rest) (loud_behind es fs)
loud_behind (Send to m ∷ es) fs = ap (λ rest. Send to m ∷ rest) (loud_behind es fs)
loud_behind (Do w ∷ es) fs = loud_behind es fs

no_front : (xs ys : List Effect) → xs ++ ys ≡ [] → xs ≡ []
no_front [] ys none = refl
no_front (x ∷ xs) ys none = absurd cc

seen_of_loud : (es : List Effect) → seen es ≡ seen (loud es)
seen_of_loud [] = refl
seen_of_loud (Say b ∷ es) = ap (λ rest. Said b ∷ rest) (seen_of_loud es)
seen_of_loud (Send to m ∷ es) = ap (λ rest. Sent to (frame_kind m) (Some m) ∷ rest) (seen_of_loud es)
seen_of_loud (Do w ∷ es) = seen_of_loud es

-- effects of which nothing is seen are put out by nothing
puts_quiet : (es : List Effect) (a b : List Output) → loud es ≡ [] → PutsOut [] a b → PutsOut es a b
puts_quiet es a b quiet puts = record { added = puts.added; are = puts.are; seen_so = puts.seen_so ∙ sym (seen_of_loud es ∙ ap seen quiet) }

nothing_put : (a : List Output) → PutsOut [] a a
nothing_put a = record { added = []; are = sym (append-nil a); seen_so = refl }

-- behind a line
cut_said : (left : Disk → Type 0) (b : Body) (es : List Effect) (d : Disk) (x y z : List Output) → PutsOut (Say b ∷ []) x y →
    IsCut left es d y z → IsCut left (Say b ∷ es) d x z
cut_said left b es d x y z said cut = record {
  front = Say b ∷ cut.front;
  stop = record {
    work = cut.stop.work;
    back = cut.stop.back;
    how = cut.stop.how;
    are = ap (λ rest. Say b ∷ rest) cut.stop.are;
    disk =
        cut.stop.disk;
  };
  puts = puts_more (Say b ∷ []) cut.front x y z said cut.puts;
}

module _ (n : ℕ) (on : Here → Type 0) (k : ℕ) where
  pub void_frame : (h : Here) (a b : List Output) → on h → b ≡ a ++ output.Say (body.Void k) ∷ [] →
      Steps n on (void_step k (up_node n h) []) a b
  void_frame h a b stands are = record { here = h; after_is = refl; stands = stands; puts = said_one (body.Void k) a b are }

  pub left_frame : (h : Here) (v : Handled) (before outs : List Outgoing) (a b : List Output) → Leaves on h v before outs →
      b ≡ a ++ output.Say (body.Void k) ∷ [] → Steps n on (handled_step k (up_node n h) v) a b
  left_frame h v before outs a b leaves are = subst (λ w. Steps n on (handled_step k (up_node n h) w) a b) (sym leaves.is) there
    where
      there : Steps n on (void_step k (up_node n h) leaves.looks) a b
      there = record {
        here = h;
        after_is = refl;
        stands = leaves.stands;
        puts =
            puts_more leaves.looks (Say (body.Void k) ∷ []) a a b (puts_quiet leaves.looks a a leaves.quiet (nothing_put a)) (said_one (body.Void k) a b are);
      }

  pub got_frame : (mid : Here → Type 0) (h : Here) (v : Handled) (before outs : List Outgoing) (a b c : List Output) → before ≡ [] →
      Takes mid h v before outs → b ≡ a ++ output.Say (body.Got k) ∷ []
      → ((t : Parts) (es : List Effect) (d : Disk) → mid (record { disk = disk_after es d; parts = t }) → effects_of outs ≡ loud es →
      Goes on (whole n t es d) b c) → Steps n on (handled_step k (up_node n h) v) a c
  got_frame mid h v before outs a b c none takes are settled =
      subst (λ w. Steps n on (handled_step k (up_node n h) w) a c) (sym takes.is) there
    where
      goes : Goes on (whole n takes.parts takes.effects h.disk) b c
      goes = settled takes.parts takes.effects h.disk takes.does.stands (takes.does.tells ∙ ap (λ os. effects_of os ++ loud takes.effects) none)

      there : Steps n on (handled_step k (up_node n h) (Took takes.parts takes.effects)) a c
      there = record {
        here = (whole n takes.parts takes.effects h.disk).here;
        after_is = refl;
        stands = goes.stands;
        puts = puts_more (Say (body.Got k) ∷ []) (whole n takes.parts takes.effects h.disk).outs a b c (said_one (body.Got k) a b are) goes.puts;
      }

-- stops
module _ (n : ℕ) (left : Disk → Type 0) (k : ℕ) where
  pub got_cut : (mid : Here → Type 0) (h : Here) (v : Handled) (before outs : List Outgoing) (a b c : List Output) → before ≡ [] →
      Takes mid h v before outs → b ≡ a ++ output.Say (body.Got k) ∷ []
      → ((t : Parts) (es : List Effect) (d : Disk) → mid (record { disk = disk_after es d; parts = t }) → effects_of outs ≡ loud es →
      IsCut left (whole n t es d).outs d b c) → IsCut left (handled_step k (up_node n h) v).halting h.disk a c
  got_cut mid h v before outs a b c none takes are settled =
      subst (λ w. IsCut left (handled_step k (up_node n h) w).halting h.disk a c) (sym takes.is)
      (cut_said left (body.Got k) (whole n takes.parts takes.effects h.disk).outs h.disk a b c (said_one (body.Got k) a b are)
      (settled takes.parts takes.effects h.disk takes.does.stands (takes.does.tells ∙ ap (λ os. effects_of os ++ loud takes.effects) none)))

  void_cut : (es : List Effect) (d : Disk) (before outs : List Outgoing) (a b : List Output) → before ≡ [] → loud es ≡ [] →
      IsHalted left es d before outs → PutsOut (outward n (effects_of outs)) a b → IsCut left es d a b
  void_cut es d before outs a b none quiet halted puts =
      let still : loud halted.front ≡ [] =
      no_front (loud halted.front) (loud (Do halted.stop.work ∷ halted.stop.back)) (sym (ap loud halted.stop.are ∙ loud_behind halted.front (Do halted.stop.work ∷ halted.stop.back)) ∙ quiet) in
      let silent : effects_of outs ≡ [] = halted.tells ∙ ((λ i. effects_of (none i) ++ still i)) in
      record {
        front = halted.front;
        stop = halted.stop;
        puts =
            puts_quiet halted.front a b still (subst (λ xs. PutsOut (outward n xs) a b) silent puts);
      }

  pub halted_frame : (h : Here) (v : Handled) (before outs : List Outgoing) (a b c : List Output) → before ≡ [] → IsQuiet v →
      IsHalted left (outs_of v) h.disk before outs → b ≡ a ++ output.Say (body.Got k) ∷ [] → PutsOut (outward n (effects_of outs)) b c
      → IsCut left (handled_step k (up_node n h) v).halting h.disk a c
  halted_frame h (Void es) before outs a b c none quiet halted are puts =
      cut_said left (body.Got k) es h.disk a b c (said_one (body.Got k) a b are) (void_cut es h.disk before outs b c none quiet halted puts)
  halted_frame h (Took t es) before outs a b c none quiet halted are puts =
      cut_said left (body.Got k) (whole n t es h.disk).outs h.disk a b c (said_one (body.Got k) a b are) (took_cut n left t es h.disk before outs b c none halted puts)
