-- Laws: the rules that the proof command `search` is handed where a contract goes by tests: the choice, and what a branch of the code shows of its test.
use Rattle.std.proofs.Common.{rules, eq-eqb, ne_eqb, lt-ltb, le-ltb, le-leb}
use Rattle.std.proofs.lemmas.Bool.{lt-leb}
use Rattle.base.specs.Pick.{pick_true, pick_false}

pub ruleset cases = (rules, pick_true, pick_false, eq-eqb, ne_eqb, lt-ltb, le-ltb, le-leb, lt-leb)
