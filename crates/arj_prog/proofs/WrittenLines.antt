-- Each line of the programs stands behind those of the draft.
use Rattle.std.proofs.Common.{◌≡◌, List, [], ◌∷◌, ◌++◌, true, false, Option, Some, None, refl, sym, ◌∙◌, ap, append_assoc, ⊎_elim}
use Rattle.std.specs.Prelude.{Bool, not, if◌then◌else◌}
use Rattle.std.specs.List.{flat_map}
use Rattle.std.proofs.lemmas.Bool.{both_ways, cases_Bool}
use Rattle.std.proofs.lemmas.Grind.{flat_map-append}
use Rattle.std.proofs.lemmas.List.{append-nil}
use Rattle.arj_prog.specs.declared.draft.Draft.{Draft}
use Rattle.arj_prog.specs.declared.frame.Frame.{Frame}
use Rattle.arj_prog.specs.declared.frame.Opened.{Opened}
use Rattle.arj_prog.specs.declared.frame.Opened.TheVariants as opened
use Rattle.arj_prog.specs.declared.opening.Opening.{Opening}
use Rattle.arj_prog.specs.declared.said.Said.{Said}
use Rattle.arj_prog.specs.declared.said.Said.TheVariants as said
use Rattle.arj_prog.specs.declared.statements.Statement.{Statement}
use Rattle.arj_prog.specs.declared.statements.Statement.TheVariants as statement
use Rattle.arj_prog.specs.Drafts.{behind_line, draft_at, draft_behind, ended_in, ends_program, fits_at, fits_draft, fits_in, is_run}
use Rattle.arj_prog.specs.Drafts.{plan_of, program_of, with_opening, with_program}
use Rattle.arj_prog.specs.Listed.{add, before}
use Rattle.arj_prog.specs.Listing.{Listing, End, Do, Print, If, Block, Fail, joined}
use Rattle.arj_prog.specs.Nesting.{awaits_else, ended, in_second, is_in_first, is_nil, with_first}
use Rattle.arj_prog.specs.Written.{draft_lines, lines_at, listing_lines, nest_lines, opened_lines, opening_lines, plan_lines, program_lines}

not_true : (b : Bool) → not b ≡ true → b ≡ false
not_true true h = sym h
not_true false h = refl

nil_is : (fs : List Frame) → is_nil fs ≡ true → fs ≡ []
nil_is [] h = refl
nil_is (f ∷ fs) h = absurd (both_ways false refl h)

joined_lines : (l m : Listing) → listing_lines (joined l m) ≡ listing_lines l ++ listing_lines m
joined_lines End m = refl
joined_lines (Do x op rest) m = ap (λ ls. said.Do x op ∷ ls) (joined_lines rest m)
joined_lines (Print x op rest) m = ap (λ ls. said.Print x op ∷ ls) (joined_lines rest m)
joined_lines (If x op answer first second rest) m =
    ap (λ ls. said.If x op answer ∷ (listing_lines first ++ (said.Else ∷ (listing_lines second ++ (said.End ∷ ls))))) (joined_lines rest m) ∙ simp append_assoc
joined_lines (Block retry body rest) m =
    ap (λ ls. said.Block retry ∷ (listing_lines body ++ (said.End ∷ ls))) (joined_lines rest m) ∙ simp append_assoc
joined_lines (Fail rest) m = ap (λ ls. said.Fail ∷ ls) (joined_lines rest m)

-- the lines of a statement alone
abbrev alone : Statement → List Said
alone s = listing_lines (before s End)

added : (l : Listing) (s : Statement) → listing_lines (add l s) ≡ listing_lines l ++ alone s
added l s = joined_lines l (before s End)

-- the lines of a statement at its end
ended_lines : (what : Opened) (list : Listing) → awaits_else (record { before = End; opened = what } ∷ []) ≡ false →
    alone (ended what list) ≡ opened_lines what ++ (listing_lines list ++ said.End ∷ [])
ended_lines (opened.Block retry) list more = refl
ended_lines (opened.If x op answer None) list more = absurd (both_ways true more refl)
ended_lines (opened.If x op answer (Some first)) list more = simp append_assoc

abbrev Grows : Opening → Said → Type 0
Grows o s = opening_lines (behind_line s o) ≡ opening_lines o ++ s ∷ []

put : (o : Opening) (s : Statement) (line : Said) → alone s ≡ line ∷ [] →
    said.Prog o.name o.node o.retry ∷ (nest_lines o.nest ++ listing_lines (add o.list s)) ≡ opening_lines o ++ line ∷ []
put o s line is =
    ap (λ ls. said.Prog o.name o.node o.retry ∷ (nest_lines o.nest ++ ls)) (added o.list s ∙ ap (λ ls. listing_lines o.list ++ ls) is) ∙ simp append_assoc

opens : (o : Opening) (what : Opened) (line : Said) → opened_lines what ≡ line ∷ [] →
    said.Prog o.name o.node o.retry ∷ ((nest_lines o.nest ++ (listing_lines o.list ++ opened_lines what)) ++ []) ≡ opening_lines o ++ line ∷ []
opens o what line is =
    ap (λ ls. said.Prog o.name o.node o.retry ∷ ((nest_lines o.nest ++ (listing_lines o.list ++ ls)) ++ [])) is ∙ simp (append_assoc, append-nil)

seconds : (o : Opening) (fs : List Frame) → awaits_else fs ≡ true →
    nest_lines (in_second o.list fs) ++ [] ≡ (nest_lines fs ++ listing_lines o.list) ++ said.Else ∷ []
seconds o [] waits = absurd (both_ways false refl waits)
seconds o (f ∷ fs) waits = cases f.opened waits
  where
    cases : (what : Opened) → is_in_first what ≡ true →
        (nest_lines fs ++ (listing_lines f.before ++ opened_lines (with_first o.list what))) ++ [] ≡ ((nest_lines fs ++ (listing_lines f.before ++ opened_lines what)) ++ listing_lines o.list) ++ said.Else ∷ []
    cases (opened.Block retry) waits = absurd (both_ways false refl waits)
    cases (opened.If x op answer (Some first)) waits = absurd (both_ways false refl waits)
    cases (opened.If x op answer None) waits = simp (append_assoc, append-nil)

ends : (o : Opening) (f : Frame) (fs : List Frame) → is_in_first f.opened ≡ false →
    nest_lines fs ++ listing_lines (add f.before (ended f.opened o.list)) ≡ (nest_lines (f ∷ fs) ++ listing_lines o.list) ++ said.End ∷ []
ends o f fs more =
    ap (λ ls. nest_lines fs ++ ls) (added f.before (ended f.opened o.list) ∙ ap (λ ls. listing_lines f.before ++ ls) (ended_lines f.opened o.list more)) ∙ simp append_assoc

-- In a program each line but its end stands behind those before it.
grows : (o : Opening) (s : Said) → fits_in s o ≡ true → ends_program s o ≡ false → Grows o s
grows o (said.Do x op) fits more = put o (statement.Do x op) (said.Do x op) refl
grows o (said.Print x op) fits more = put o (statement.Print x op) (said.Print x op) refl
grows o (said.If x op answer) fits more = opens o (opened.If x op answer None) (said.If x op answer) refl
grows o said.Else fits more = ap (λ ls. said.Prog o.name o.node o.retry ∷ ls) (seconds o o.nest fits)
grows o (said.Block retry) fits more = opens o (opened.Block retry) (said.Block retry) refl
grows o said.Fail fits more = put o statement.Fail said.Fail refl
grows o said.End fits more = cases o.nest refl
  where
    cases : (fs : List Frame) → o.nest ≡ fs → Grows o said.End
    cases [] is = absurd (both_ways (is_nil o.nest) more (ap is_nil is))
    cases (f ∷ fs) is =
        let open_first : is_in_first f.opened ≡ false = not_true (is_in_first f.opened) (ap (λ gs. not (awaits_else gs)) (sym is) ∙ fits) in
        ap (λ gs. opening_lines (ended_in gs o)) is ∙ (ap (λ ls. said.Prog o.name o.node o.retry ∷ ls) (ends o f fs open_first) ∙ ap (λ gs. said.Prog o.name o.node o.retry ∷ ((nest_lines gs ++ listing_lines o.list) ++ said.End ∷ [])) (sym is))
grows o (said.Prog label node retry) fits more = absurd (both_ways false refl fits)
grows o said.Run fits more = absurd (both_ways false refl fits)

program_grows : (d : Draft) (o : Opening) → o.nest ≡ [] →
    flat_map program_lines (d.programs ++ program_of o ∷ []) ++ [] ≡ (flat_map program_lines d.programs ++ opening_lines o) ++ said.End ∷ []
program_grows d o is =
    let ps = flat_map program_lines d.programs in
    let head = said.Prog o.name o.node o.retry in
    let ls = listing_lines o.list in
    let first : flat_map program_lines (d.programs ++ program_of o ∷ []) ++ [] ≡ (ps ++ ((head ∷ (ls ++ said.End ∷ [])) ++ [])) ++ [] =
    ap (λ qs. qs ++ []) (flat_map-append program_lines d.programs (program_of o ∷ [])) in
    let regroup : (ps ++ ((head ∷ (ls ++ said.End ∷ [])) ++ [])) ++ [] ≡ (ps ++ (head ∷ ls)) ++ said.End ∷ [] =
    simp (append_assoc, append-nil) in
    let back : (ps ++ (head ∷ ls)) ++ said.End ∷ [] ≡ (ps ++ opening_lines o) ++ said.End ∷ [] =
    ap (λ gs. (ps ++ (head ∷ (nest_lines gs ++ ls))) ++ said.End ∷ []) (sym is) in
    first ∙ (regroup ∙ back)

-- What a draft was read from grows by the line that was taken.
pub lines_grow : (s : Said) (d : Draft) → fits_draft s d ≡ true → is_run s ≡ false →
    draft_lines (draft_behind s d) ≡ draft_lines d ++ s ∷ []
lines_grow s d fits goes = at d.opening refl
  where
    between : (s : Said) → d.opening ≡ None → fits_at None s d ≡ true → is_run s ≡ false →
        draft_lines (draft_at None s d) ≡ (flat_map program_lines d.programs ++ []) ++ s ∷ []
    between (said.Prog label node retry) is fits goes = simp append-nil
    between said.Run is fits goes = absurd (both_ways true goes refl)
    between _ is fits goes = absurd (both_ways false refl fits)

    last : (s : Said) (o : Opening) → ends_program s o ≡ true →
        draft_lines (with_program o d) ≡ (flat_map program_lines d.programs ++ opening_lines o) ++ s ∷ []
    last said.End o h = program_grows d o (nil_is o.nest h)
    last _ o h = absurd (both_ways false refl h)

    inside : (o : Opening) → fits_at (Some o) s d ≡ true →
        draft_lines (draft_at (Some o) s d) ≡ (flat_map program_lines d.programs ++ opening_lines o) ++ s ∷ []
    inside o fits = ⊎_elim
        (λ (last_one : ends_program s o ≡ true). ap (λ b. draft_lines (if b then with_program o d else with_opening (Some (behind_line s o)) d)) last_one ∙ last s o last_one)
        (λ (goes_on : ends_program s o ≡ false). ap (λ b. draft_lines (if b then with_program o d else with_opening (Some (behind_line s o)) d)) goes_on ∙ (ap (λ ls. flat_map program_lines d.programs ++ ls) (grows o s fits goes_on) ∙ simp append_assoc))
        (cases_Bool (ends_program s o))

    at : (o : Option Opening) → d.opening ≡ o → draft_lines (draft_behind s d) ≡ draft_lines d ++ s ∷ []
    at None is = ap (λ q. draft_lines (draft_at q s d)) is ∙ (between s is (ap (λ q. fits_at q s d) (sym is) ∙ fits) goes ∙ ap (λ q. (flat_map program_lines d.programs ++ lines_at q) ++ s ∷ []) (sym is))
    at (Some o) is =
        ap (λ q. draft_lines (draft_at q s d)) is ∙ (inside o (ap (λ q. fits_at q s d) (sym is) ∙ fits) ∙ ap (λ q. (flat_map program_lines d.programs ++ lines_at q) ++ s ∷ []) (sym is))

-- At `run` no program is open.
pub lines_at_run : (d : Draft) → fits_draft said.Run d ≡ true → draft_lines d ≡ plan_lines (plan_of d)
lines_at_run d fits = at d.opening fits
  where
    at : (o : Option Opening) → fits_at o said.Run d ≡ true →
        flat_map program_lines d.programs ++ lines_at o ≡ flat_map program_lines d.programs
    at None h = append-nil (flat_map program_lines d.programs)
    at (Some o) h = absurd (both_ways false refl h)
