use Rattle.std.proofs.Common.{◌≡◌, ◌++◌, ◌∙◌, true, ap}
use Rattle.std.proofs.lemmas.Result.{IfOk-weaker}
use Rattle.arj_view_html.specs.Page.{page_text}
use Rattle.arj_view_html.specs.declared.page.TheConstants.{BACK, FRONT}
use Rattle.arj_view.proofs.showing.page_of.Goals as goal

pub returns : goal.returns
returns c =
    let page = c.write_html.new.page in
    let text = page_text FRONT.now BACK.now c.args.seen.now in
    IfOk-weaker c.finish.result (λ shown. (page.whole ≡ true) × (shown ≡ page.bytes)) (λ shown. shown ≡ text)
    (λ shown h. h.1 ∙ (c.in_ok-write_html.ensures.appends h.0).1 ∙ ap (λ bytes. bytes ++ text) c.new-page.ensures.empty) c.finish.ensures
