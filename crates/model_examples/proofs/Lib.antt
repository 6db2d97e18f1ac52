mod TestLemmas
mod Searches
mod RunSearch
mod RouterSearch
mod OrderSearch
mod OpeningSearch
mod ExampleSearch
