use Rattle.std.proofs.Common.{rules, ◌≡◌, sym, subst, ℕ, Some, None}
use Rattle.run_words.specs.declared.options.Name.TheVariants.{Put, Get, Delete}
use Rattle.run_words.specs.Options.{number_for}
use Rattle.run_words.specs.Settings.{IsNumber, majority, GivesLog}
use Rattle.run_words.proofs.WordLemmas.{some_is}
use Rattle.run_words.proofs.settings.shape_of.Goals as goal

pub returns-in_err-put-clause-only : goal.returns-in_err-put-clause-only
returns-in_err-put-clause-only c = λ shape given.
    let options = c.args.options.now in
    let nodes : c.in_ok-nodes.nodes ≡ shape.nodes = some_is _ _ (c.in_ok-nodes.ensures.only shape.nodes given.nodes) in
    let replicas : c.in_ok-replicas.replicas ≡ shape.replicas = some_is _ _ (c.in_ok-replicas.ensures.only shape.replicas (search rules)) in
    let need = subst (λ (r : ℕ). IsNumber (number_for options Put) (majority r) 1 r shape.put) (sym replicas) given.put in
    let bad : None ≡ Some shape.put = c.in_err-put.ensures.only shape.put need in
    absurd cc

pub returns-in_err-get-clause-only : goal.returns-in_err-get-clause-only
returns-in_err-get-clause-only c = λ shape given.
    let options = c.args.options.now in
    let nodes : c.in_ok-nodes.nodes ≡ shape.nodes = some_is _ _ (c.in_ok-nodes.ensures.only shape.nodes given.nodes) in
    let replicas : c.in_ok-replicas.replicas ≡ shape.replicas = some_is _ _ (c.in_ok-replicas.ensures.only shape.replicas (search rules)) in
    let need = subst (λ (r : ℕ). IsNumber (number_for options Get) (majority r) 1 r shape.get) (sym replicas) given.get in
    let bad : None ≡ Some shape.get = c.in_err-get.ensures.only shape.get need in
    absurd cc

pub returns-in_err-delete-clause-only : goal.returns-in_err-delete-clause-only
returns-in_err-delete-clause-only c = λ shape given.
    let options = c.args.options.now in
    let nodes : c.in_ok-nodes.nodes ≡ shape.nodes = some_is _ _ (c.in_ok-nodes.ensures.only shape.nodes given.nodes) in
    let replicas : c.in_ok-replicas.replicas ≡ shape.replicas = some_is _ _ (c.in_ok-replicas.ensures.only shape.replicas (search rules)) in
    let need = subst (λ (r : ℕ). IsNumber (number_for options Delete) (majority r) 1 r shape.delete) (sym replicas) given.delete in
    let bad : None ≡ Some shape.delete = c.in_err-delete.ensures.only shape.delete need in
    absurd cc

pub returns-in_err-log-clause-only : goal.returns-in_err-log-clause-only
returns-in_err-log-clause-only c = λ shape given.
    let log = subst (λ (chunk : ℕ). GivesLog c.args.options.now chunk shape.log) given.chunk given.log in
    let bad : None ≡ Some shape.log = c.in_err-log.ensures.only shape.log log in
    absurd cc
