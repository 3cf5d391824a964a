use Rattle.std.proofs.Common.{◌∷◌, [], ◌∙◌, arith, length-append}
use Rattle.std.specs.Str.Lines.{lines}
use Rattle.script.specs.working.ReadingScripts.{declared}
use Rattle.script.proofs.Readings.{ends, goes_on, stops_with}
use Rattle.script.proofs.reading.lines_of.Goals as goal

pub returns-in-Err : goal.returns-in-Err
returns-in-Err c =
    stops_with (declared c.loop-text.seen) c.loop-text.found.items c.len.result (c.len.ensures ∙ c.loop-text.found.ok.0) (lines c.loop-text.rest.now) (lines c.in-Some.behind.now) c.in-Some.text.now _
    c.loop-text.invariant.so_far c.in-Some.ensures.lines c.in-Err.why c.in-Err.ensures.line

pub loop-text-preserved : goal.loop-text-preserved
loop-text-preserved c =
    let longer = length-append c.loop-text.found.items (c.in-Ok.line ∷ []) in
    record {
      so_far = goes_on (declared c.loop-text.seen) c.loop-text.found.items c.len.result (c.len.ensures ∙ c.loop-text.found.ok.0) (lines c.loop-text.rest.now) (lines c.in-Some.behind.now) c.in-Some.text.now _
          c.loop-text.invariant.so_far c.in-Some.ensures.lines _ _ c.in-Ok.line c.in-Ok.ensures.line c.in_ok-note.ensures c.in_ok-push.ensures.items;
      few = rw c.in_ok-push.ensures.items (let count = c.len.ensures ∙ c.loop-text.found.ok.0 in omega (arith, longer, count, c.in-Ok.ensures.room));
    }

pub returns : goal.returns
returns c = ends (declared c.loop-text.seen) c.loop-text.found.items (lines c.loop-text.rest.now) _ c.loop-text.invariant.so_far c.in_default.ensures.lines
