use Rattle.std.proofs.Common.{refl, ap, ◌∙◌, subst, true}
use Rattle.std.specs.Prelude.{◌==◌}
use Rattle.std.proofs.lemmas.Result.{IfOk-weaker}
use Rattle.feed_records.specs.Parting.{PassesBody, PassesHead, SaysOpening, opens_connection}
use Rattle.feed_records.proofs.Skipping.{opens_here, passed_opening, goes_alone, goes_headed, ends_headed, ends_nowhere}
use Rattle.feed_records.proofs.screen_lines.ScreenLines.go_on.Goals as goal

pub returns-then-not-branch-clause-last : goal.returns-then-not-branch-clause-last
returns-then-not-branch-clause-last g c end is none =
    ends_nowhere end
    (subst (λ f. PassesBody f end (g.L.Lines.left c.pass_body.new.self.source) (g.L.Lines.front c.pass_body.new.self.source) c.pass_body.new.self.lines) c.if-not-branch.true
    (c.in_ok-pass_body.ensures.passes end is))

pub returns-then-is_head-clause-next : goal.returns-then-is_head-clause-next
returns-then-is_head-clause-next g c end is =
    let p : PassesBody true end (g.L.Lines.left c.pass_body.new.self.source) (g.L.Lines.front c.pass_body.new.self.source) c.pass_body.new.self.lines =
    subst (λ f. PassesBody f end (g.L.Lines.left c.pass_body.new.self.source) (g.L.Lines.front c.pass_body.new.self.source) c.pass_body.new.self.lines) c.if-not-branch.false
    (c.in_ok-pass_body.ensures.passes end is) in
    let front = g.L.Lines.front c.pass_body.new.self.source in
    let line_is = c.without_end-line.ensures p.1.line (c.front.ensures ∙ p.1.front_is) in
    let says = subst (λ h. SaysOpening h c.without_end-line.result.now (c.pass_body.new.self.lines == 0) c.args.opened.now c.read_opening.new.opened) c.if-is_head.true
    (c.in-Ok.ensures (ap opens_connection line_is ∙ opens_here end front c.pass_body.new.self.lines p.1 p.2 p.3)) in
    let mid = passed_opening end front c.pass_body.new.self.lines p.1 p.2 p.3 _ _ p.0 c.pass.ensures.left in
    IfOk-weaker c.pass_head.result _ _
    (λ found h e. goes_headed end front c.pass_body.new.self.lines p.1 p.2 p.3 c.without_end-line.result.now line_is (c.pass_body.new.self.lines == 0) c.args.opened.now c.read_opening.new.opened
    (g.L.Lines.left c.pass_head.new.self.source) c.saturating_add-self.result c.pass_head.new.self.lines c.saturating_add-self.ensures refl says
    (subst (λ f. PassesHead f p.1.behind (g.L.Lines.left c.pass_head.new.self.source) c.saturating_add-self.result c.pass_head.new.self.lines) e h))
    (c.pass_head.ensures.passes p.1.behind mid)

pub returns-then-is_head-clause-last : goal.returns-then-is_head-clause-last
returns-then-is_head-clause-last g c end is =
    let p : PassesBody true end (g.L.Lines.left c.pass_body.new.self.source) (g.L.Lines.front c.pass_body.new.self.source) c.pass_body.new.self.lines =
    subst (λ f. PassesBody f end (g.L.Lines.left c.pass_body.new.self.source) (g.L.Lines.front c.pass_body.new.self.source) c.pass_body.new.self.lines) c.if-not-branch.false
    (c.in_ok-pass_body.ensures.passes end is) in
    let front = g.L.Lines.front c.pass_body.new.self.source in
    let line_is = c.without_end-line.ensures p.1.line (c.front.ensures ∙ p.1.front_is) in
    let says = subst (λ h. SaysOpening h c.without_end-line.result.now (c.pass_body.new.self.lines == 0) c.args.opened.now c.read_opening.new.opened) c.if-is_head.true
    (c.in-Ok.ensures (ap opens_connection line_is ∙ opens_here end front c.pass_body.new.self.lines p.1 p.2 p.3)) in
    let mid = passed_opening end front c.pass_body.new.self.lines p.1 p.2 p.3 _ _ p.0 c.pass.ensures.left in
    IfOk-weaker c.pass_head.result _ _
    (λ found h e. ends_headed end front c.pass_body.new.self.lines p.1 p.2 p.3 c.without_end-line.result.now line_is (c.pass_body.new.self.lines == 0) c.args.opened.now c.read_opening.new.opened
    (g.L.Lines.left c.pass_head.new.self.source) c.saturating_add-self.result c.pass_head.new.self.lines says
    (subst (λ f. PassesHead f p.1.behind (g.L.Lines.left c.pass_head.new.self.source) c.saturating_add-self.result c.pass_head.new.self.lines) e h))
    (c.pass_head.ensures.passes p.1.behind mid)

pub returns-clause-next : goal.returns-clause-next
returns-clause-next g c end is some =
    let p : PassesBody true end (g.L.Lines.left c.pass_body.new.self.source) (g.L.Lines.front c.pass_body.new.self.source) c.pass_body.new.self.lines =
    subst (λ f. PassesBody f end (g.L.Lines.left c.pass_body.new.self.source) (g.L.Lines.front c.pass_body.new.self.source) c.pass_body.new.self.lines) c.if-not-branch.false
    (c.in_ok-pass_body.ensures.passes end is) in
    let front = g.L.Lines.front c.pass_body.new.self.source in
    let line_is = c.without_end-line.ensures p.1.line (c.front.ensures ∙ p.1.front_is) in
    let says = subst (λ h. SaysOpening h c.without_end-line.result.now (c.pass_body.new.self.lines == 0) c.args.opened.now c.read_opening.new.opened) c.if-is_head.false
    (c.in-Ok.ensures (ap opens_connection line_is ∙ opens_here end front c.pass_body.new.self.lines p.1 p.2 p.3)) in
    let mid = passed_opening end front c.pass_body.new.self.lines p.1 p.2 p.3 _ _ p.0 c.pass.ensures.left in
    goes_alone end front c.pass_body.new.self.lines p.1 p.2 p.3 c.without_end-line.result.now line_is (c.pass_body.new.self.lines == 0) c.args.opened.now c.read_opening.new.opened
    (g.L.Lines.left c.pass.new.self) c.saturating_add-self.result mid c.saturating_add-self.ensures says
