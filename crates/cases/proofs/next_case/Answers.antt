-- The header was read, and after it the body.
use Rattle.std.proofs.Common.{rules, Ok, ap, ◌∙◌}
use Rattle.std.proofs.KnownBytes.{Consumes-trans}
use Rattle.cases.proofs.next_case.Goals as goal

pub returns : goal.returns
returns g c = λ answer e. record {
  header = c.in-Some.bytes;
  head = c.from-head.result;
  body = c.is_read.new.bytes;
  is_header = search rules;
  is_head = c.from-head.ensures;
  is_body = search rules;
  read = Consumes-trans _ _ _ _ _ (c.next_bytes.ensures c.in-Some.bytes (c.in_ok-bytes.was ∙ ap Ok c.in-Some.is)) (c.is_read.ensures (c.in_ok-is_read.was ∙ ap Ok c.if-not-branch.false));
}
