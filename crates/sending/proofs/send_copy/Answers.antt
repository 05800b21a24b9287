-- By what the calls answer, put together by one law; the word count fits the words lent.
use mathlib.Core.Path.{◌≡◌, ◌∙◌}
use native.Mathlib.Omega.{arith}
use lib.ListN.{length}
use Rattle.sending.proofs.Laws.Answering.{copy_fits, copy_main_fits, copied_all}
use borrow.Author.Rules.{rules}
use Rattle.sending.proofs.send_copy.Goals as goal

pub finish-requires-clause-within : goal.finish-requires-clause-within
finish-requires-clause-within c =
    let a = c.args in
    let w = c.copy_bundle-count in
    let h : length w.new.out ≡ length a.out.now = search rules in
    omega (arith, h, w.ensures.0, copy_fits (length a.ws.now) (length a.out.now))

pub finish-requires-clause-whole : goal.finish-requires-clause-whole
finish-requires-clause-whole c =
    let a = c.args in
    let w = c.copy_bundle-count in
    let h : length w.new.out ≡ length a.out.now = search rules in
    λ some. omega (arith, h, copy_main_fits (length a.ws.now) (length a.out.now) (λ z. some (omega (arith, w.ensures.0, z))))

pub returns : goal.returns
returns c =
    let a = c.args in
    let s = c.finish.ensures in
    let all = copied_all a.m a.question a.f a.lasting a.stage a.ws.now a.out.now _ _ _ _ _ _
    c.write_fields-w0.ensures c.copy_bundle-count.ensures (s.after, s.lent) s.station in
    (s.counted ∙ all.0, all.1, all.2, all.3)
