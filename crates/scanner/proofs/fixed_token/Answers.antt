-- The rows of the table are the grammar's, by computing.
use Rattle.std.proofs.Common.{◌≡◌, rules, tests, map, ap, sym, ◌∙◌}
use Rattle.std.specs.Option.{option_map}
use Rattle.std.proofs.lemmas.Iterator.{YieldsList-from_slice}
use Rattle.std.proofs.lemmas.Iterator.Search.{find_from_yields_List}
use Rattle.grammar.specs.Tokens.{fixed_words, token_among}
use Rattle.scanner.proofs.Spellings.{row, spells, looked_up}
use Rattle.scanner.proofs.fixed_token.Goals.{After-find}
use Rattle.scanner.proofs.fixed_token.Goals as goal

found : (c : After-find) → option_map (λ r. r.now.1) c.find.result ≡ token_among fixed_words c.args.word.now
unfolding fixed_words
found c =
    let w = c.args.word.now in
    looked_up w c.iter.result.rest.now c.find.result
    (find_from_yields_List (spells w) _ _ c.find.result c.find.ensures.ran (YieldsList-from_slice c.iter.result.rest.now cc) (λ x b q k. search (rules, tests)))
    ∙ ap (λ rows. token_among (map row rows) w) c.iter.ensures.rest

pub returns-in_err-token : goal.returns-in_err-token
returns-in_err-token c = c.from_residual.ensures ∙ sym (ap (option_map (λ r. r.now.1)) c.in_err-token.was) ∙ found (goal.at.returns-in_err-token c).After-find

pub returns : goal.returns
returns c = sym (ap (option_map (λ r. r.now.1)) c.in_ok-token.was) ∙ found (goal.at.returns c).After-find
